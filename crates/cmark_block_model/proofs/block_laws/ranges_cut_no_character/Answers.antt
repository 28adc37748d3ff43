use Rattle.cmark_block_model.proofs.BoundaryLaws.{derived-boundaries}
use Rattle.cmark_block_model.proofs.block_laws.ranges_cut_no_character.Goals as goal

pub returns : goal.returns
returns c = derived-boundaries
