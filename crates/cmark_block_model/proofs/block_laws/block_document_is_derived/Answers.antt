use Rattle.std.proofs.Common.{refl}
use Rattle.cmark_block_model.specs.BlocksModel.{blocks}
use Rattle.cmark_block_model.proofs.BlocksSound.{blocks-body}
use Rattle.cmark_block_model.proofs.block_laws.block_document_is_derived.Goals as goal

pub returns : goal.returns
returns c text options lookup = (blocks options text, blocks-body options text, refl)
