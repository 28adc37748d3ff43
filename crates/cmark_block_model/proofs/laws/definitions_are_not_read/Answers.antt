use Rattle.cmark_block_model.proofs.Drawings.{whole-read}
use Rattle.cmark_block_model.proofs.laws.definitions_are_not_read.Goals as goal

pub returns : goal.returns
returns c = whole-read
