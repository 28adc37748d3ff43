use Rattle.cmark_inline_model.proofs.ForwardLaws.{leaf-forward}
use Rattle.cmark_inline_model.proofs.laws.leaves_lead_on.Goals as goal

pub returns : goal.returns
returns c = leaf-forward
