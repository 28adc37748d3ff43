-- The rest of a line, as the row of the grammar that it is.
use Rattle.std.specs.Prelude.{ℕ, ◌≤◌, false, List, [], length}
use Rattle.std.specs.Str.{IsCharBoundary}
use Rattle.cmark_grammar.specs.Rows.{Row}
use Rattle.cmark_block_model.proofs.RowEdges.{GoodRow}
use Rattle.cmark_scan_lines.specs.LineStart.{row_from}
use Rattle.cmark_line_rules.specs.declared.line_rest.LineRest.{LineRest}

unfoldable pub row_of : LineRest → Row
row_of rest = row_from rest.start rest.line_end rest.front

-- an empty line without an ending, at this place
abbrev pub no_row : ℕ → Row
no_row at = record { columns = []; at = at; content_end = at; line_end = at; lazy = false; held = false }

-- the columns of a line are in order, up to its ending. The places at which the line, an ASCII byte of it, its ending and the next line
-- begin are character boundaries of this text
abbrev pub CutsNoCharacter : List ℕ → Row → Type 0
CutsNoCharacter text r = GoodRow (IsCharBoundary text) r

-- the line is part of this text
pub record IsIn (text : List ℕ) (rest : LineRest) : Type 0 where
  pub good : CutsNoCharacter text (row_of rest)
  pub within : (row_of rest).line_end ≤ length text
