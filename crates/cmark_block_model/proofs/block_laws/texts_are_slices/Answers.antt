use Rattle.cmark_block_model.proofs.SliceLaws.{derived-slices}
use Rattle.cmark_block_model.proofs.block_laws.texts_are_slices.Goals as goal

pub returns : goal.returns
returns c = derived-slices
