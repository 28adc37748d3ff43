-- The rows of the table in the code.
use Rattle.std.specs.Prelude.{ℕ, List, ◌+◌, drop, take}
use Rattle.cmark_entities.specs.declared.table.TheConstants.{BYTES}

-- the name of a row among these bytes, and the text after it
abbrev pub name_among : List ℕ → ℕ × ℕ × ℕ → List ℕ
name_among bytes row = take row.1 (drop row.0 bytes)

abbrev pub text_among : List ℕ → ℕ × ℕ × ℕ → List ℕ
text_among bytes row = take row.2 (drop (row.0 + row.1) bytes)

abbrev pub name_in : ℕ × ℕ × ℕ → List ℕ
name_in = name_among BYTES

abbrev pub text_in : ℕ × ℕ × ℕ → List ℕ
text_in = text_among BYTES
