use Rattle.std.proofs.Common.{take, take_all, arith}
use Rattle.cmark_search.proofs.Sets.{low_ok, marked-keys}
use Rattle.cmark_search.proofs.search.marks_of_keys.Goals as goal

pub swizzle-sought : goal.swizzle-sought
swizzle-sought c = low_ok c.args.lanes c.fits-lanes.0 c.fits-lanes.1

pub returns : goal.returns
returns c = marked-keys c.args.keys.now c.args.lanes c.fits-lanes.0 c.fits-lanes.1 (take 16 c.args.keys.now) (take_all 16 c.args.keys.now (omega (arith, c.told-keys)))
