use Rattle.std.proofs.Common.{◌≡◌, List, ℕ, map, take}
use Rattle.cmark_items.specs.Tables.{defined}
use Rattle.cmark_line_rules.specs.Rests.{row_of}
use Rattle.cmark_blocks.specs.IndentedLines.{DrawsLines}
use Rattle.cmark_blocks.proofs.code.draw_blank_lines.Given as goal

abbrev pub invariant-loop-line : goal.invariant-loop-line
invariant-loop-line l = record {
  lines : (text : List ℕ) → DrawsLines text l.fn.builder l.builder (map row_of (take l.line-index l.lines)) l.fn.waits l.left;
  definitions : defined l.builder.allocations ≡ defined l.fn.builder.allocations;
}
