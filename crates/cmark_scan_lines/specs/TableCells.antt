-- The cells of a table's row, in order.
use Rattle.std.specs.Prelude.{ℕ, suc, false, List, [], ◌∷◌, take, drop, Option, Some, None}
use Rattle.cmark_grammar.specs.TableRows.{parts, without_blank_end}

-- the cells of a row that continues with these bytes after a pipe
abbrev pub cells_after : List ℕ → List (List ℕ)
cells_after bs = without_blank_end (parts false bs)

-- the first cell has this number of bytes, and these are the bytes after the pipe that follows it; or there is no cell
abbrev pub cells_cut : (bytes : List ℕ) → Option (ℕ × List ℕ) → List (List ℕ)
cells_cut bytes None = []
cells_cut bytes (Some cut) = take cut.0 bytes ∷ cells_after cut.1

-- this number of bytes come before the first pipe that separates cells; `None` if there is no pipe
abbrev pub parts_at : (bytes : List ℕ) → Option ℕ → List (List ℕ)
parts_at bytes None = bytes ∷ []
parts_at bytes (Some at) = take at bytes ∷ parts false (drop (suc at) bytes)
