use Rattle.std.proofs.Common.{◌≡◌, ◌≤◌, ◌-◌, ◌++◌, length, drop}
use Rattle.cmark_span_scan.specs.Dollars.{dollars_from, dollars_in, shown_braces}
use Rattle.cmark_span_scan.proofs.dollars.list_dollars.Given as goal

abbrev pub invariant-loop-at : goal.invariant-loop-at
invariant-loop-at l = record {
  within : l.at ≤ length l.bytes;
  next : l.braces.next ≤ l.at;
  listed : l.listed.items ++ dollars_from l.at l.is_escaped (shown_braces l.braces) (drop l.at l.bytes) ≡ dollars_in l.bytes;
}

abbrev pub decreases-loop-at : goal.decreases-loop-at
decreases-loop-at l = length l.bytes - l.at
