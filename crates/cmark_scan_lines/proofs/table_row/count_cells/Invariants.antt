use Rattle.std.proofs.Common.{◌≡◌, ◌≤◌, ◌+◌, length}
use Rattle.cmark_grammar.specs.TableRows.{cells_of}
use Rattle.cmark_scan_lines.specs.TableCells.{cells_after}
use Rattle.cmark_scan_lines.proofs.table_row.count_cells.Given as goal

abbrev pub invariant-loop-at : goal.invariant-loop-at
invariant-loop-at l = (l.cells + length (cells_after l.rest) ≡ length (cells_of l.words)) × (l.cells + length l.rest ≤ length l.words)

abbrev pub decreases-loop-at : goal.decreases-loop-at
decreases-loop-at l = length l.rest
