use Rattle.cmark_block_model.proofs.MetadataLaws.{metadata-outside}
use Rattle.cmark_block_model.proofs.block_laws.metadata_stands_outside_of_containers.Goals as goal

pub returns : goal.returns
returns c = metadata-outside
