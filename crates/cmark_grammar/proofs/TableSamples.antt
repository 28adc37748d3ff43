-- Tables, by computation: the cells of a row, and which lines are heads and interrupt a paragraph.
use Rattle.std.specs.Prelude.{◌≡◌, ◌∷◌, List, [], Bool, true, false, codes, Option, Some, None, map}
use Rattle.std.proofs.Common.{refl}
use Rattle.cmark_grammar.specs.Alignment.{Alignment, Unaligned, Left, Center, Right}
use Rattle.cmark_grammar.specs.BlockDocument.{TableCell, Text, outline, node}
use Rattle.cmark_grammar.specs.Options.{Options, no_options}
use Rattle.cmark_grammar.specs.Rows.{Row, rows, lazy_row, is_blank_line}
use Rattle.cmark_grammar.specs.TableRows.{cells_of, cells_start, count_missing, most_filled, count_rows, table_head, table_interrupts}
use Rattle.cmark_grammar.specs.TableTokens.{cells_then}

abbrev tables : Options
tables = record no_options { tables = true }

-- a pipe before and a pipe after the cells belong to no cell; an empty part between two pipes is a cell
outer_pipes : cells_of (codes "| a | b |  ") ≡ codes " a " ∷ codes " b " ∷ []
outer_pipes = refl

inner_pipes : cells_of (codes "a||b") ≡ codes "a" ∷ [] ∷ codes "b" ∷ []
inner_pipes = refl

lone_pipe : cells_of (codes "| ") ≡ []
lone_pipe = refl

two_pipes : cells_of (codes "||") ≡ [] ∷ []
two_pipes = refl

-- a pipe directly after a backslash separates no cells, also after two, and at the end; a pipe in code does
escaped : cells_of (codes "a\\|b\\\\|c|`d|e`|f\\|") ≡ codes "a\\|b\\\\|c" ∷ codes "`d" ∷ codes "e`" ∷ codes "f\\|" ∷ []
escaped = refl

-- the place of the first cell, and the number of cells filled in at the end of a row of three columns
starts : map cells_start (rows (codes " |a\nb|\n")) ≡ 2 ∷ 4 ∷ []
starts = refl

missing : map (count_missing 3) (rows (codes "a\n|\na|b|\na|b|c|d\n")) ≡ 2 ∷ 3 ∷ 1 ∷ 0 ∷ []
missing = refl

-- rows end before the first line that ends a table, or that needs more cells than may still be filled in
abbrev blank : Row → List Row → Bool
blank r ahead = is_blank_line r

ended : count_rows blank 2 most_filled (rows (codes "a|b\nc\n\nd|e\n")) ≡ 2
ended = refl

filled : map (λ left. count_rows blank 3 left (rows (codes "a\na|b|c|d\na|b\na\n"))) (1 ∷ 2 ∷ 3 ∷ 4 ∷ 5 ∷ []) ≡ 0 ∷ 2 ∷ 3 ∷ 3 ∷ 4 ∷ []
filled = refl

-- 262,144 cells are filled in at most
limit : map (λ columns. count_rows blank columns most_filled (rows (codes "a\n"))) (262145 ∷ 262146 ∷ []) ≡ 1 ∷ 0 ∷ []
limit = refl

abbrev head_in : Options → List Row → Option (List Alignment)
head_in options [] = None
head_in options (r ∷ ahead) = table_head options r ahead

abbrev interrupts_in : List Row → Bool
interrupts_in [] = false
interrupts_in (r ∷ ahead) = table_interrupts tables r ahead

-- the next line says how the columns are aligned
head : head_in tables (rows (codes "|a|b|c|d|\n |-|:-|:-:|-:|\n")) ≡ Some (Unaligned ∷ Left ∷ Center ∷ Right ∷ [])
head = refl

-- with the option off there is no table
off : head_in no_options (rows (codes "a|b\n-|-\n")) ≡ None
off = refl

-- a delimiter row has the same number of cells as the head, and at most three columns of indent; a pipe separates the head's cells
more : head_in tables (rows (codes "a|b\n-|-|-\n")) ≡ None
more = refl

far : head_in tables (rows (codes "|a|\n    |-|")) ≡ None
far = refl

no_pipe : head_in tables (rows (codes "a\\|\n-|")) ≡ None
no_pipe = refl

last : head_in tables (rows (codes "a|b")) ≡ None
last = refl

-- a line that lacks a prefix is no head
lazy : head_in tables (map lazy_row (rows (codes "a|\n-|"))) ≡ None
lazy = refl

-- a paragraph is interrupted if the line begins with a pipe, indented by at most three columns
preceding : interrupts_in (rows (codes " |b|\n|-|")) ≡ true
preceding = refl

none_preceding : interrupts_in (rows (codes "b|\n-|")) ≡ false
none_preceding = refl

far_in : interrupts_in (rows (codes "    |b|\n|-|")) ≡ false
far_in = refl

-- the cells of a row: those that are missing are filled in, and those past the last column are left out
cells_filled_in : outline (cells_then (codes "a|b \n") 3 0 5 (codes "a" ∷ codes "b " ∷ [])) ≡
    node TableCell 0 1 ∷ node (Text (codes "a")) 0 1 ∷ node TableCell 2 4 ∷ node (Text (codes "b")) 2 3 ∷ node TableCell 5 5 ∷ []
cells_filled_in = refl

cells_left_out : outline (cells_then (codes "a|b\n") 1 0 4 (codes "a" ∷ codes "b" ∷ [])) ≡ node TableCell 0 1 ∷ node (Text (codes "a")) 0 1 ∷ []
cells_left_out = refl
