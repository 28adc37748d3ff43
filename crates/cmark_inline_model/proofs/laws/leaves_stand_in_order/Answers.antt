use Rattle.std.proofs.Common.{length, arith}
use Rattle.cmark_block_model.proofs.RangeLaws.{derived-order}
use Rattle.cmark_inline_model.proofs.DocumentLeaves.{segments-turn}
use Rattle.cmark_inline_model.proofs.laws.leaves_stand_in_order.Goals as goal

pub returns : goal.returns
returns c text options lookup document h = segments-turn (length text) 0 document (length text) (omega arith) (derived-order text options lookup document h)
