use Rattle.std.proofs.Common.{◌≡◌, ◌≤◌, ◌-◌}
use Rattle.cmark_scan_lines.proofs.line_start.LineStart.take_marker.Given as goal

abbrev pub invariant-loop-self : goal.invariant-loop-self
invariant-loop-self l = record {
  line : l.self.bytes ≡ l.fn.self.bytes;
  held : l.self.held ≡ l.fn.self.held;
  whole : l.self.pending ≡ 0;
  within : l.self.taken ≤ l.stop;
}

abbrev pub decreases-loop-self : goal.decreases-loop-self
decreases-loop-self l = l.stop - l.self.taken
