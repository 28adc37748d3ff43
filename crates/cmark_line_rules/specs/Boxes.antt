-- A task marker at the beginning of a line's rest (GFM 5.3).
use Rattle.std.specs.Prelude.{◌≡◌, Bool}
use Rattle.cmark_grammar.specs.Rows.{Row, without}
use Rattle.cmark_line_rules.specs.Rests.{row_of}
use Rattle.cmark_line_rules.specs.declared.line_rest.LineRest.{LineRest}

-- whether the box is checked
abbrev pub is_checked : Bool × LineRest → Bool
is_checked marker = marker.0

-- the line after the box, which has three columns
abbrev pub IsAfterBox : Row → Bool × LineRest → Type 0
IsAfterBox r marker = row_of marker.1 ≡ without 3 r
