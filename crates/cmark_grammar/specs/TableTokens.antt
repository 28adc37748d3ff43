-- The content of a table: its head and its rows, and their cells (GFM 4.10).
use Rattle.std.specs.Prelude.{ℕ, zero, suc, ◌+◌, List, [], ◌∷◌, length, drop, take_while}
use Rattle.cmark_grammar.specs.BlockDocument.{BlockDocument, Nil, Node, node, TableHead, TableRow, TableCell}
use Rattle.cmark_grammar.specs.Columns.{is_blank_byte, drop_end}
use Rattle.cmark_grammar.specs.Rows.{Row, words_of, start_of}
use Rattle.cmark_grammar.specs.TableRows.{cells_of, cells_start}
use Rattle.cmark_grammar.specs.Tokens.{stretch_then}

-- the text of a cell that begins at a place, without the spaces and tabs at both ends
abbrev pub cell_tokens : (text : List ℕ) → (at : ℕ) → (cell : List ℕ) → BlockDocument
cell_tokens text at cell = stretch_then text (at + length (take_while is_blank_byte cell)) (at + length (drop_end is_blank_byte cell)) Nil

-- `columns` cells, the first of which begins at a place: each ends at the next pipe. Further cells are left out; missing ones are filled
-- in, empty, at the row's end
abbrev pub cells_then : (text : List ℕ) → (columns : ℕ) → (at line_end : ℕ) → List (List ℕ) → BlockDocument
cells_then text zero at line_end cells = Nil
cells_then text (suc columns) at line_end [] = Node (node TableCell line_end line_end) Nil (cells_then text columns at line_end [])
cells_then text (suc columns) at line_end (cell ∷ cells) =
    Node (node TableCell at (at + length cell)) (cell_tokens text at cell) (cells_then text columns (suc (at + length cell)) line_end cells)

abbrev pub row_cells : (text : List ℕ) → (columns : ℕ) → Row → BlockDocument
row_cells text columns r = cells_then text columns (cells_start r) r.line_end (cells_of (words_of r))

-- the rows of a table: each begins at its first byte after the indent and ends after its line ending
abbrev pub row_tokens : (text : List ℕ) → (columns : ℕ) → List Row → BlockDocument
row_tokens text columns [] = Nil
row_tokens text columns (r ∷ rs) = Node (node TableRow (start_of r) r.line_end) (row_cells text columns r) (row_tokens text columns rs)

-- the head, and the rows after the delimiter row, which belongs neither to the head nor to a row
abbrev pub table_tokens : (text : List ℕ) → (columns : ℕ) → Row → List Row → BlockDocument
table_tokens text columns head more =
    Node (node TableHead (start_of head) head.line_end) (row_cells text columns head) (row_tokens text columns (drop 1 more))
