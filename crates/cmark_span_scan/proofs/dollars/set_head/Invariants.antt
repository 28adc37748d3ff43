use Rattle.std.proofs.Common.{◌≡◌, ◌≤◌, ◌-◌, ◌+◌, ℕ, length, get_or}
use Rattle.cmark_span_scan.proofs.dollars.set_head.Given as goal

abbrev pub invariant-loop-heads : goal.invariant-loop-heads
invariant-loop-heads l = record {
  longer : length l.initial.heads.items ≤ length l.heads.items;
  same : (k : ℕ) → get_or l.heads.items k l.none ≡ get_or l.initial.heads.items k l.none;
}

abbrev pub decreases-loop-heads : goal.decreases-loop-heads
decreases-loop-heads l = l.context + 1 - length l.heads.items
