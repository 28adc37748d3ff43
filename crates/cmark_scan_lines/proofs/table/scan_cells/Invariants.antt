use Rattle.std.proofs.Common.{◌≡◌, ◌++◌, length, map}
use Rattle.std.specs.Prelude.{option_map}
use Rattle.cmark_grammar.specs.Tables.{alignments, cells}
use Rattle.cmark_values.specs.Shown.{shown_alignment}
use Rattle.cmark_scan_lines.proofs.table.scan_cells.Given as goal

abbrev pub invariant-loop-at : goal.invariant-loop-at
invariant-loop-at l = option_map (λ more. map shown_alignment l.columns.items ++ more) (alignments (cells l.rest)) ≡ alignments (cells l.row)

abbrev pub decreases-loop-at : goal.decreases-loop-at
decreases-loop-at l = length l.rest
