use Rattle.cmark_grammar.specs.Questions.{AnyAnswer}
use Rattle.cmark_inline_model.proofs.BracketsStep.{steps-hold}
use Rattle.cmark_inline_model.proofs.laws.steps_keep_the_reading.Goals as goal

pub returns : goal.returns
returns c token decide start p q h k = steps-hold token decide AnyAnswer start p q h k
