-- The labels of links on lines with prefixes (CommonMark 4.7 and 6.3), and in cells of tables (GFM 4.10).
use Rattle.std.specs.Prelude.{ℕ, zero, suc, Bool, true, false, ◌||◌, if◌then◌else◌, List, [], ◌∷◌, Option, Some, None, option_map}
use Rattle.cmark_grammar.specs.Characters.{backslash, left_bracket, pipe, right_bracket}
use Rattle.cmark_grammar.specs.Letters.{and_then, starts}
use Rattle.cmark_grammar.specs.Lines.{ends_line}
use Rattle.cmark_grammar.specs.Unescaped.{escaped_pipe}
use Rattle.cmark_grammar.specs.LinkDefinitions.{Parsed, up_to_byte, escapes_next, label_if}

-- a backslash and a pipe, which are a literal pipe in a table cell (GFM 4.10)
abbrev pub piped : List ℕ
piped = backslash ∷ pipe ∷ []

-- two backslashes
abbrev pub backslash_pair : List ℕ
backslash_pair = backslash ∷ backslash ∷ []

-- Backslashes are read from the left, in pairs. The backslash of each `\|` is removed, both backslashes of each `\\|` are, and any other
-- pair is kept. Is_second: the first byte is the second one of a kept pair
abbrev pub literal_pipes_from : (is_second : Bool) → List ℕ → List ℕ
literal_pipes_from is_second [] = []
literal_pipes_from true (b ∷ bs) = b ∷ literal_pipes_from false bs
literal_pipes_from false (b ∷ bs) =
    if starts piped (b ∷ bs) || starts escaped_pipe (b ∷ bs) then literal_pipes_from false bs
    else b ∷ literal_pipes_from (starts backslash_pair (b ∷ bs)) bs

abbrev pub with_literal_pipes : List ℕ → List ℕ
with_literal_pipes = literal_pipes_from false

abbrev pub as_in_cell : (is_in_table : Bool) → Parsed → Parsed
as_in_cell is_in_table found = if is_in_table then record { bytes = with_literal_pipes found.bytes; following = found.following } else found

module _ (prefix : List ℕ → Option ℕ) where
  -- the number of prefix bytes after this byte; `None` if the label ends there
  abbrev pub label_prefix : ℕ → List ℕ → Option ℕ
  label_prefix b bs = if ends_line b bs then prefix bs else Some 0

  -- the bytes up to the closing bracket, without those of prefixes
  abbrev pub up_to_bracket : (escaped : Bool) → (skip : ℕ) → List ℕ → Option Parsed
  up_to_bracket escaped skip [] = None
  up_to_bracket escaped (suc skip) (b ∷ bs) = up_to_bracket escaped skip bs
  up_to_bracket escaped zero (b ∷ bs) = up_to_byte escaped right_bracket left_bracket true b bs (and_then (label_prefix b bs) (λ n. up_to_bracket (escapes_next escaped b) n bs))

  -- a label after its opening bracket, without prefixes, and the bytes after its closing one. The limit on a label's characters counts the
  -- written characters, also in a table
  abbrev pub label_over_lines : (is_in_table : Bool) → List ℕ → Option Parsed
  label_over_lines is_in_table bs = option_map (as_in_cell is_in_table) (label_if (up_to_bracket false 0 bs))
