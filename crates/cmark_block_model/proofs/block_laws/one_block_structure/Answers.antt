use Rattle.cmark_block_model.proofs.BlocksOne.{blocks-only}
use Rattle.cmark_block_model.proofs.block_laws.one_block_structure.Goals as goal

pub returns : goal.returns
returns c options text structure = blocks-only options text structure
