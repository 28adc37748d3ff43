-- The places of a line's bytes in its columns.
use Rattle.std.specs.Prelude.{ℕ, ◌+◌, ◌==◌, if◌then◌else◌, List, [], ◌∷◌}
use Rattle.cmark_grammar.specs.Characters.{tab}
use Rattle.cmark_grammar.specs.Columns.{to_tab_stop}

-- the number of columns of a byte that begins in this column
abbrev pub width_at : (column b : ℕ) → ℕ
width_at column b = if b == tab then to_tab_stop column else 1

-- the column after these bytes, which begin in this column
abbrev pub column_after : ℕ → List ℕ → ℕ
column_after column [] = column
column_after column (b ∷ bs) = column_after (column + width_at column b) bs
