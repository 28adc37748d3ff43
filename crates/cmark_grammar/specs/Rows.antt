-- The rest of a line inside containers (CommonMark 2.2 and 5.1). Example: in the block quote `> a` it is `a`.
use Rattle.std.specs.Prelude.{ℕ, suc, ◌+◌, Bool, true, false, ◌==◌, ◌&&◌, not, if◌then◌else◌, List, [], ◌∷◌, length, drop}
use Rattle.cmark_grammar.specs.Lines.{lines, content}
use Rattle.cmark_grammar.specs.Columns.{Column, expand, indent, without_indent, bytes_of}

-- the columns of a line after the prefixes of the containers around it. The places in the text at which the whole line begins, its line
-- ending begins, and the next line begins. Lazy: the line lacks a prefix (CommonMark 5.1). Held: a container without a prefix contains it
-- (this profile's own)
pub record Row : Type 0 where
  pub columns : List Column
  pub at : ℕ
  pub content_end : ℕ
  pub line_end : ℕ
  pub lazy : Bool
  pub held : Bool

abbrev pub row_at : ℕ → List ℕ → Row
row_at at line = record { columns = expand 0 at (content line); at = at; content_end = at + length (content line); line_end = at + length line; lazy = false; held = false }

-- lines that begin at this place of the text
abbrev pub rows_from : ℕ → List (List ℕ) → List Row
rows_from at [] = []
rows_from at (line ∷ more) = row_at at line ∷ rows_from (at + length line) more

-- the lines of a text (CommonMark 2.1)
abbrev pub rows : List ℕ → List Row
rows text = rows_from 0 (lines text)

-- the line without its first `n` columns: the columns that are left of a tab are spaces (CommonMark 2.2)
abbrev pub without : ℕ → Row → Row
without n r = record r { columns = drop n r.columns }

-- the line, marked as lazy
abbrev pub lazy_row : Row → Row
lazy_row r = record r { lazy = true }

-- the line, marked as held
abbrev pub hold : Row → Row
hold r = record r { held = true }

abbrev pub is_bare : List Column → Bool
is_bare [] = true
is_bare (c ∷ cs) = false

-- only spaces and tabs (CommonMark 2.1)
abbrev pub is_blank_line : Row → Bool
is_blank_line r = is_bare (without_indent r.columns)

-- the number of columns of spaces and tabs at the beginning (CommonMark 2.2)
abbrev pub indent_of : Row → ℕ
indent_of r = indent r.columns

-- the bytes after the indent
abbrev pub words_of : Row → List ℕ
words_of r = bytes_of (without_indent r.columns)

-- the place of a column; a column that is left of a tab is at the end of the tab (this profile's own)
abbrev pub place : Column → ℕ
place c = if c.part == 0 then c.at else suc c.at

abbrev pub first_place : ℕ → List Column → ℕ
first_place none [] = none
first_place none (c ∷ cs) = place c

-- the places at which the line begins and at which its first byte after the indent is
abbrev pub begin_of : Row → ℕ
begin_of r = first_place r.content_end r.columns

abbrev pub start_of : Row → ℕ
start_of r = first_place r.content_end (without_indent r.columns)

-- no column was removed from the beginning of the line, and it is not held, so that it is in no container
abbrev pub is_whole_line : Row → Bool
is_whole_line r = (begin_of r == r.at) && not r.held

-- the end of the last of these lines
abbrev pub last_line_end : Row → List Row → ℕ
last_line_end first [] = first.line_end
last_line_end first (r ∷ more) = last_line_end r more

-- a line before those ahead, and the lines up to the first that lacks a prefix: the lines that a line may look at
abbrev pub show_as : Bool → Row → List Row → List Row
show_as true r ahead = []
show_as false r ahead = r ∷ ahead

abbrev pub shown : List Row → List Row
shown [] = []
shown (r ∷ rs) = show_as r.lazy r (shown rs)
