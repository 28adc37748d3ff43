use Rattle.cmark_inline_model.proofs.LeafExtents.{derived-extents, text-extent}
use Rattle.cmark_inline_model.proofs.laws.leaves_stand_apart.Goals as goal

pub returns-clause-apart : goal.returns-clause-apart
returns-clause-apart c = derived-extents

pub returns-clause-own : goal.returns-clause-own
returns-clause-own c = text-extent
