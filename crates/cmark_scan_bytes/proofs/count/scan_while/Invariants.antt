use Rattle.std.proofs.Common.{ℕ, ◌<◌, true, get_or}
use Rattle.cmark_scan_bytes.proofs.count.scan_while.Given as goal

abbrev pub invariant-loop-i : goal.invariant-loop-i
invariant-loop-i g l = (k : ℕ) → k < l.i → goal.F-post g l.f (get_or l.bytes k 0) true
