use Rattle.std.proofs.Common.{◌≤◌, ◌-◌, ℕ, length}
use Rattle.cmark_span_scan.specs.Special.{Iterates}
use Rattle.cmark_span_scan.proofs.special.iterate_special_bytes.Given as goal

abbrev pub invariant-loop-callback : goal.invariant-loop-callback
invariant-loop-callback g l = record {
  callable : goal.F-IsAlwaysCallable g l.callback;
  within : l.at ≤ length l.bytes;
  reached : (end : ℕ) (value : _) → Iterates (goal.F-step g) l.table l.bytes l.callback l.at end value → Iterates (goal.F-step g) l.fn.table l.fn.bytes l.fn.callback l.fn.ix end value;
}

abbrev pub decreases-loop-callback : goal.decreases-loop-callback
decreases-loop-callback g l = length l.bytes - l.at
