use Rattle.cmark_inline_model.proofs.DecisionRules.{asks-rightly}
use Rattle.cmark_inline_model.proofs.laws.questions_are_about_unknown_labels.Goals as goal

pub returns : goal.returns
returns c reader leaf s closer = asks-rightly reader leaf s closer
