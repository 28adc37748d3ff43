use Rattle.std.proofs.Common.{◌≡◌, ◌≤◌, ◌+◌, length, option_map}
use Rattle.cmark_grammar.specs.Tables.{alignments, cells}
use Rattle.cmark_scan_lines.proofs.TableRowSteps.{counted}
use Rattle.cmark_scan_lines.proofs.table.count_columns.Given as goal

abbrev pub invariant-loop-at : goal.invariant-loop-at
invariant-loop-at l = (counted l.columns (alignments (cells l.rest)) ≡ option_map length (alignments (cells l.row))) × (l.columns + length l.rest ≤ length l.row)

abbrev pub decreases-loop-at : goal.decreases-loop-at
decreases-loop-at l = length l.rest
