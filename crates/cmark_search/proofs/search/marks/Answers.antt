use Rattle.std.proofs.Common.{take, take_all, arith}
use Rattle.cmark_search.proofs.Sets.{low_ok, high_ok, marked-read}
use Rattle.cmark_search.proofs.search.marks.Goals as goal

pub swizzle-low : goal.swizzle-low
swizzle-low c = low_ok c.args.lanes c.fits-lanes.0 c.fits-lanes.1

pub swizzle-high : goal.swizzle-high
swizzle-high c = high_ok c.args.lanes c.fits-lanes.0 c.fits-lanes.1

pub returns : goal.returns
returns c = marked-read c.args.rows.now c.args.lanes c.fits-lanes.0 c.fits-lanes.1 (take 16 c.args.rows.now) (take_all 16 c.args.rows.now (omega (arith, c.told-rows)))
