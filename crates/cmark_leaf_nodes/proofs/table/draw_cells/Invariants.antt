use Rattle.std.proofs.Common.{◌≡◌, ◌-◌, ◌+◌, ◌≤◌, ℕ, List, length}
use Rattle.cmark_items.specs.Tables.{defined}
use Rattle.cmark_grammar.specs.TableRows.{count_missing}
use Rattle.cmark_grammar.specs.TableTokens.{cells_then, row_cells}
use Rattle.cmark_scan_lines.specs.TableCells.{cells_after}
use Rattle.cmark_block_model.specs.Drawing.{Drawing, drawn}
use Rattle.cmark_builder.specs.Drawn.{Draws}
use Rattle.cmark_line_rules.specs.Rests.{row_of}
use Rattle.cmark_leaf_nodes.proofs.table.draw_cells.Given as goal

abbrev pub invariant-loop-left : goal.invariant-loop-left
invariant-loop-left l = record {
  within : length l.cells ≤ l.content_end;
  drawn : (text : List ℕ) (d : Drawing) → Draws text l.fn.builder d → (e : Drawing) × Draws text l.builder e
      × (drawn (row_cells text l.fn.columns (row_of l.fn.rest)) d ≡ drawn (cells_then text l.left (l.content_end - length l.cells) l.line_end (cells_after l.cells)) e);
  filled : l.filled + (l.left - length (cells_after l.cells)) ≡ count_missing l.fn.columns (row_of l.fn.rest);
  few : l.filled + l.left ≤ l.fn.columns;
  definitions : defined l.builder.allocations ≡ defined l.fn.builder.allocations;
}

abbrev pub decreases-loop-left : goal.decreases-loop-left
decreases-loop-left l = l.left
