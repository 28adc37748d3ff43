use Rattle.cmark_block_model.proofs.BlocksByLine.{by_line-same}
use Rattle.cmark_block_model.proofs.block_laws.lines_give_the_blocks.Goals as goal

pub returns : goal.returns
returns c options text = by_line-same options text
