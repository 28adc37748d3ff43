use Rattle.std.proofs.Common.{false, ◌-◌, ◌≤◌, length}
use Rattle.cmark_scan_lines.proofs.TableRowSteps.{Passed}
use Rattle.cmark_scan_lines.proofs.table_row.find_pipe.Given as goal

abbrev pub invariant-loop-ahead : goal.invariant-loop-ahead
invariant-loop-ahead l = Passed l.bytes l.from false × (l.from ≤ length l.bytes)

abbrev pub decreases-loop-ahead : goal.decreases-loop-ahead
decreases-loop-ahead l = length l.bytes - l.from
