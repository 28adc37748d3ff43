use Rattle.cmark_inline.proofs.PlaceEnds.{first-place, last-place}
use Rattle.cmark_inline.proofs.laws.a_leaf_begins_and_ends_with_its_bytes.Goals as goal

pub returns-clause-first : goal.returns-clause-first
returns-clause-first c = first-place

pub returns-clause-last : goal.returns-clause-last
returns-clause-last c = last-place
