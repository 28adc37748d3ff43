-- The shape of tables: a head and rows, whose number of cells is the table's number of columns (GFM 4.10).
use Rattle.std.specs.Prelude.{◌≡◌, ℕ, zero, suc, length}
use Rattle.cmark_grammar.specs.BlockDocument.{BlockKind, BlockDocument, Nil, Node, Table, TableHead, TableRow, TableCell}

-- these are `count` cells, and nothing else
abbrev pub AreCells : (count : ℕ) → BlockDocument → Type 0
AreCells zero Nil = Unit {0}
AreCells zero (Node node inside after) = ⊥
AreCells (suc count) Nil = ⊥
AreCells (suc count) (Node node inside after) = (node.kind ≡ TableCell) × AreCells count after

-- these are rows, each of `columns` cells
abbrev pub AreRows : (columns : ℕ) → BlockDocument → Type 0
AreRows columns Nil = Unit {0}
AreRows columns (Node node inside after) = (node.kind ≡ TableRow) × AreCells columns inside × AreRows columns after

-- a head of `columns` cells, and rows
abbrev pub IsTable : (columns : ℕ) → BlockDocument → Type 0
IsTable columns Nil = ⊥
IsTable columns (Node node inside after) = (node.kind ≡ TableHead) × AreCells columns inside × AreRows columns after

-- if the node is a table, its content is that of a table with one column for each of its alignments
abbrev pub IsRectangular : BlockKind → (inside : BlockDocument) → Type 0
IsRectangular (Table alignments) inside = IsTable (length alignments) inside
IsRectangular _ inside = Unit {0}

abbrev pub HasRectangularTables : BlockDocument → Type 0
HasRectangularTables Nil = Unit {0}
HasRectangularTables (Node node inside after) = IsRectangular node.kind inside × HasRectangularTables inside × HasRectangularTables after
