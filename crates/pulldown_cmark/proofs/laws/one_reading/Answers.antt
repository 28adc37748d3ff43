use Rattle.cmark_inline_model.proofs.GivenAnswers.{answered-one}
use Rattle.pulldown_cmark.proofs.laws.one_reading.Goals as goal

pub returns : goal.returns
returns c = answered-one
