use Rattle.cmark_inline_model.proofs.GivenAnswers.{leaf-answered}
use Rattle.cmark_inline.proofs.laws.one_spans.Goals as goal

pub returns : goal.returns
returns c = leaf-answered
