use Rattle.cmark_block_model.proofs.RangeLaws.{derived-order}
use Rattle.cmark_block_model.proofs.block_laws.ranges_are_in_order.Goals as goal

pub returns : goal.returns
returns c = derived-order
