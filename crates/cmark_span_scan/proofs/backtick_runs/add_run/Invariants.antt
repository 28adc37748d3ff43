use Rattle.std.proofs.Common.{◌≡◌, ◌≤◌, ◌-◌, ◌+◌, ℕ, length, get_or}
use Rattle.cmark_span_scan.proofs.backtick_runs.add_run.Given as goal

abbrev pub invariant-loop-last : goal.invariant-loop-last
invariant-loop-last l = record {
  longer : length l.initial.last.items ≤ length l.last.items;
  same : (k : ℕ) → get_or l.last.items k 0 ≡ get_or l.initial.last.items k 0;
}

abbrev pub decreases-loop-last : goal.decreases-loop-last
decreases-loop-last l = l.size + 1 - length l.last.items
