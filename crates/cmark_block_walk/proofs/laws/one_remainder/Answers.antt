use Rattle.cmark_block_walk.proofs.OneRemainder.{one-remainder}
use Rattle.cmark_block_walk.proofs.laws.one_remainder.Goals as goal

pub returns : goal.returns
returns c = one-remainder
