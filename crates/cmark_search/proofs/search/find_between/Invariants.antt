use Rattle.std.proofs.Common.{◌≡◌, ◌≤◌, ◌<◌, ◌-◌, ℕ, false, length, slice_index}
use Rattle.cmark_search.proofs.search.find_between.Given as goal

abbrev pub invariant-loop-at : goal.invariant-loop-at
invariant-loop-at g l = record {
  from : l.from ≤ l.at;
  within : l.at ≤ length l.bytes;
  passed : (k : ℕ) → l.from ≤ k → k < l.at → g.S.LaneSet.has l.set (slice_index l.bytes k) ≡ false;
}

abbrev pub decreases-loop-at : goal.decreases-loop-at
decreases-loop-at g l = length l.bytes - l.at
