use Rattle.std.proofs.Common.{ℕ, ◌<◌, ◌≤◌, true, length, get_or}
use Rattle.cmark_scan_bytes.proofs.count.scan_rev_while.Given as goal

abbrev pub invariant-loop-at : goal.invariant-loop-at
invariant-loop-at g l = record {
  within : l.at ≤ length l.bytes;
  passed : (k : ℕ) → l.at ≤ k → k < length l.bytes → goal.F-post g l.f (get_or l.bytes k 0) true;
}

abbrev pub decreases-loop-at : goal.decreases-loop-at
decreases-loop-at g l = l.at
