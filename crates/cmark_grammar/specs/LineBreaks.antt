-- The breaks between the lines of a leaf (CommonMark 6.7 and 6.8). Example: two spaces before a line ending make a hard break.
use Rattle.std.specs.Prelude.{ℕ, ◌-◌, Bool, true, false, ◌==◌, if◌then◌else◌, List, length, drop, take_while, codes, bytes_eq, Option, option_map}
use Rattle.std.specs.Option.{option_or}
use Rattle.cmark_grammar.specs.Characters.{backslash}
use Rattle.cmark_grammar.specs.Columns.{is_blank_byte}
use Rattle.cmark_grammar.specs.Letters.{after_if, and_then}
use Rattle.cmark_grammar.specs.LinkDefinitions.{after_leading_blanks}
use Rattle.cmark_grammar.specs.Tags.{after_ending}

-- a break: the number of bytes before it, and the bytes after its line ending
pub record LineBreak : Type 0 where
  pub is_hard : Bool
  pub before : ℕ
  pub following : List ℕ

abbrev pub hard_break : (following : List ℕ) → LineBreak
hard_break following = record { is_hard = true; before = 0; following = following }

abbrev pub ends_with_two_spaces : List ℕ → Bool
ends_with_two_spaces bs = bytes_eq (drop (length bs - 2) bs) (codes "  ")

-- the break after these blanks. It is hard if two spaces come directly before the line ending, and then it begins with the blanks. Else it
-- is soft, and is the line ending only
abbrev pub blank_break : (blanks following : List ℕ) → LineBreak
blank_break blanks following = if ends_with_two_spaces blanks then hard_break following else record { is_hard = false; before = length blanks; following = following }

-- a break that begins with a backslash
abbrev pub backslash_break_in : List ℕ → Option LineBreak
backslash_break_in bs = option_map hard_break (and_then (after_if (λ b. b == backslash) bs) after_ending)

-- a break after blanks, if there are any
abbrev pub blank_break_in : List ℕ → Option LineBreak
blank_break_in bs = option_map (blank_break (take_while is_blank_byte bs)) (after_ending (after_leading_blanks bs))

-- the break at the beginning, if a line ends there
abbrev pub line_break_in : List ℕ → Option LineBreak
line_break_in bs = option_or (backslash_break_in bs) (blank_break_in bs)
