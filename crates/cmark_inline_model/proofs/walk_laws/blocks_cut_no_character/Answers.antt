use Rattle.cmark_inline_model.proofs.BlockRanges.{derived-ranges}
use Rattle.cmark_inline_model.proofs.walk_laws.blocks_cut_no_character.Goals as goal

pub returns : goal.returns
returns c = derived-ranges
