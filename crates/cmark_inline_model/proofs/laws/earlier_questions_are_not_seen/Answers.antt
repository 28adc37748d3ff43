use Rattle.cmark_inline_model.proofs.BracketsShifted.{reads-following}
use Rattle.cmark_inline_model.proofs.laws.earlier_questions_are_not_seen.Goals as goal

pub returns : goal.returns
returns c token decide shifted h all s parts t k = reads-following token decide shifted h all s parts t k
