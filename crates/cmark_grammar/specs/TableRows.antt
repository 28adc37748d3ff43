-- The rows of tables, and the cells in them (GFM 4.10).
use Rattle.std.specs.Prelude.{ℕ, suc, ◌+◌, ◌-◌, Bool, true, false, ◌==◌, ◌&&◌, not, nat_lt, nat_le, if◌then◌else◌, List, [], ◌∷◌, length, Option, Some, None}
use Rattle.cmark_grammar.specs.Characters.{backslash, pipe}
use Rattle.cmark_grammar.specs.Alignment.{Alignment}
use Rattle.cmark_grammar.specs.Lines.{onto}
use Rattle.cmark_grammar.specs.Leaves.{are_blank}
use Rattle.cmark_grammar.specs.Options.{Options}
use Rattle.cmark_grammar.specs.Rows.{Row, indent_of, words_of, start_of}
use Rattle.cmark_grammar.specs.Tables.{without_first_pipe, delimiter_row}

-- the bytes between the pipes that separate cells. A pipe directly after a backslash does not separate cells; a pipe in code does
abbrev pub parts : (escaped : Bool) → List ℕ → List (List ℕ)
parts escaped [] = [] ∷ []
parts escaped (b ∷ bs) = if (b == pipe) && not escaped then [] ∷ parts false bs else onto b (parts (b == backslash) bs)

-- a part after the last pipe that is empty or blank is not a cell
abbrev pub without_blank_end : List (List ℕ) → List (List ℕ)
without_blank_end [] = []
without_blank_end (part ∷ []) = if are_blank part then [] else part ∷ []
without_blank_end (part ∷ (next ∷ more)) = part ∷ without_blank_end (next ∷ more)

-- the cells of a row without its indent: one pipe may precede them, and one may follow them (GFM 4.10). Example: `| a | b |` has two cells
abbrev pub cells_of : (words : List ℕ) → List (List ℕ)
cells_of words = without_blank_end (parts false (without_first_pipe words))

-- the number of cells of a line, as a row of a table
abbrev pub count_cells : Row → ℕ
count_cells r = length (cells_of (words_of r))

-- the place at which the first cell begins: after the first pipe, if the row begins with one
abbrev pub cells_start : Row → ℕ
cells_start r = start_of r + (length (words_of r) - length (without_first_pipe (words_of r)))

-- the number of cells that are filled in at the end of a row of a table with `columns` columns
abbrev pub count_missing : (columns : ℕ) → Row → ℕ
count_missing columns r = columns - count_cells r

-- the largest number of filled cells of one table (this profile's own)
abbrev pub most_filled : ℕ
most_filled = 262144

abbrev pub one_more_if : Bool → ℕ → ℕ
one_more_if true n = suc n
one_more_if false n = 0

-- the number of lines ahead that are rows of a table with `columns` columns, of which `left` more cells may be filled in. The rows end
-- before the first line that ends tables, or that needs more cells than are left
abbrev pub count_rows : (ends : Row → List Row → Bool) → (columns left : ℕ) → List Row → ℕ
count_rows ends columns left [] = 0
count_rows ends columns left (r ∷ ahead) =
    one_more_if (not (ends r ahead) && nat_le (count_missing columns r) left) (count_rows ends columns (left - count_missing columns r) ahead)

-- these bytes contain a pipe that separates cells
abbrev pub holds_pipe : (words : List ℕ) → Bool
holds_pipe words = nat_lt 1 (length (parts false words))

abbrev pub with_columns : (columns : ℕ) → Option (List Alignment) → Option (List Alignment)
with_columns columns None = None
with_columns columns (Some alignments) = if length alignments == columns then Some alignments else None

-- the alignments of the columns, if the next line is a delimiter row of `columns` cells, indented by at most three columns
abbrev pub delimited_ahead : (columns : ℕ) → List Row → Option (List Alignment)
delimited_ahead columns [] = None
delimited_ahead columns (s ∷ ahead) = if nat_le (indent_of s) 3 then with_columns columns (delimiter_row (words_of s)) else None

-- the alignments of the columns of the table that begins with this line, if tables are read. The line contains a pipe that separates cells,
-- and the next line is a delimiter row with as many cells. A line that lacks a prefix begins no table
abbrev pub table_head : Options → Row → List Row → Option (List Alignment)
table_head options r ahead =
    if options.tables && (not r.lazy && holds_pipe (words_of r)) then delimited_ahead (count_cells r) ahead else None

abbrev pub is_some_head : Option (List Alignment) → Bool
is_some_head None = false
is_some_head (Some alignments) = true

abbrev pub begins_with_pipe : List ℕ → Bool
begins_with_pipe [] = false
begins_with_pipe (b ∷ bs) = b == pipe

-- a table interrupts a paragraph only if its head begins with a pipe (this profile's own)
abbrev pub table_interrupts : Options → Row → List Row → Bool
table_interrupts options r ahead = nat_le (indent_of r) 3 && (begins_with_pipe (words_of r) && is_some_head (table_head options r ahead))
