-- The bytes of an ATX heading's text, and of its attributes.
use Rattle.std.specs.Prelude.{◌≡◌, ◌≤◌, ℕ, Bool, true, false, ◌==◌, ◌||◌, nat_lt, if◌then◌else◌, List, [], length, drop, take_while, slice_range, Option, Some, None}
use Rattle.std.specs.Str.{IsUtf8, IsCharBoundary}
use Rattle.cmark_grammar.specs.Characters.{number_sign}
use Rattle.cmark_grammar.specs.Attributes.{before_braces}
use Rattle.cmark_grammar.specs.Columns.{is_blank_byte, drop_end, bytes_of}
use Rattle.cmark_grammar.specs.Leaves.{run, is_empty}
use Rattle.cmark_grammar.specs.Rows.{Row, words_of}
use Rattle.cmark_grammar.specs.Tokens.{attribute_columns, content_columns}
use Rattle.cmark_line_rules.specs.Rests.{row_of, IsIn}
use Rattle.cmark_line_rules.specs.declared.line_rest.LineRest.{LineRest}
use Rattle.cmark_leaf_nodes.specs.TextColumns.{StandInText}

-- the bytes after the `#` at the beginning and the blanks there
abbrev pub after_opening : List ℕ → List ℕ
after_opening words = drop (length (take_while is_blank_byte (drop (run number_sign words) words))) (drop (run number_sign words) words)

-- without a closing sequence: `#` at the end, alone or after a blank
abbrev pub without_closing_bytes : List ℕ → List ℕ
without_closing_bytes bs =
    if is_empty (drop_end (λ b. b == number_sign) bs) || nat_lt (length (drop_end is_blank_byte (drop_end (λ b. b == number_sign) bs))) (length (drop_end (λ b. b == number_sign) bs))
    then drop_end is_blank_byte (drop_end (λ b. b == number_sign) bs) else bs

-- the bytes without the attributes at the end, if attributes are read, and the bytes between the attributes' braces
abbrev pub without_attributes_bytes : (attributes : Bool) → List ℕ → List ℕ
without_attributes_bytes false bs = bs
without_attributes_bytes true bs = drop_end is_blank_byte (before_braces (λ b. b) bs)

-- these are the bytes of the text between two places, which are character boundaries
pub record StandsAt (text : List ℕ) (from to : ℕ) (bs : List ℕ) : Type 0 where
  pub within : from ≤ to
  pub from_uncut : IsCharBoundary text from
  pub to_uncut : IsCharBoundary text to
  pub is : slice_range text from to ≡ bs

-- the bytes between the braces of a heading's attributes
abbrev pub attribute_bytes : Row → List ℕ
attribute_bytes r = bytes_of (attribute_columns true (content_columns (run number_sign (words_of r)) r))

-- the range of the words between the braces was found, or there are no braces
abbrev pub Finds : LineRest → Option (ℕ × ℕ) → Type 0
Finds rest None = attribute_bytes (row_of rest) ≡ []
Finds rest (Some found) =
    (text : List ℕ) → IsUtf8 text → IsIn text rest → StandInText text (row_of rest).columns → StandsAt text found.0 found.1 (attribute_bytes (row_of rest))
