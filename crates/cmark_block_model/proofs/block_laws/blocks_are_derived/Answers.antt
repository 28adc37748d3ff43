use Rattle.cmark_block_model.proofs.BlocksSound.{blocks-body}
use Rattle.cmark_block_model.proofs.block_laws.blocks_are_derived.Goals as goal

pub returns : goal.returns
returns c options text = blocks-body options text
