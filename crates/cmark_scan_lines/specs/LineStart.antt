-- The rest of a line, as the row of the grammar that it is.
use Rattle.std.specs.Prelude.{ℕ, suc, ◌+◌, ◌-◌, Bool, ◌==◌, ◌&&◌, not, nat_le, nat_lt, slice_index, false, if◌then◌else◌, List, [], ◌∷◌, length, drop, take}
use Rattle.cmark_grammar.specs.Columns.{Column, expand}
use Rattle.cmark_grammar.specs.Lines.{content}
use Rattle.cmark_grammar.specs.Rows.{Row}
use Rattle.cmark_scan_lines.specs.Places.{column_after}
use Rattle.cmark_scan_lines.specs.declared.line_start.LineStart.{LineStart}

-- the number of columns that were taken
abbrev pub columns_taken : LineStart → ℕ
columns_taken line = column_after 0 (take line.taken line.bytes.now) - line.pending

-- the columns that are left, if the line begins at this place of a text
abbrev pub columns_from : ℕ → LineStart → List Column
columns_from at line = drop (columns_taken line) (expand 0 at line.bytes.now)

-- the row that is left, if the line begins at this place of a text and the next line at that one
abbrev pub row_from : (at line_end : ℕ) → LineStart → Row
row_from at line_end line = record { columns = columns_from at line; at = at; content_end = at + length line.bytes.now; line_end = line_end; lazy = false; held = not (line.held == 0) }

-- the whole line at the beginning of these bytes, at this place of a text
abbrev pub line_of : (at line_end : ℕ) → List ℕ → Row
line_of at line_end bytes = record { columns = expand 0 at (content bytes); at = at; content_end = at + length (content bytes); line_end = line_end; lazy = false; held = false }

-- the number of columns at the beginning that are left of a partly taken tab
abbrev pub cut_columns : List Column → ℕ
cut_columns [] = 0
cut_columns (c ∷ cs) = if c.part == 0 then 0 else suc (cut_columns cs)

-- it is known that a later byte stops a thematic break of this character
abbrev pub knows_stop : (character : ℕ) → LineStart → Bool
knows_stop character line = nat_le line.taken line.break_stop && (nat_lt line.break_stop (length line.bytes.now) && not (slice_index line.bytes.now line.break_stop == character))
