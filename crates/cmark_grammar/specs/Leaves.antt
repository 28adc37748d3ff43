-- Leaf blocks, and the lines that belong to them (CommonMark 4).
use Rattle.std.specs.Prelude.{ℕ, zero, suc, Bool, true, false, ◌==◌, ◌&&◌, ◌||◌, nat_lt, nat_le, if◌then◌else◌, List, [], ◌∷◌, length, drop, take_while, count_by, Option, Some, None}
use Rattle.cmark_grammar.specs.Characters.{asterisk, backtick, equals_sign, hyphen, number_sign, tilde, underscore}
use Rattle.cmark_grammar.specs.Columns.{is_blank_byte, drop_end}
use Rattle.cmark_grammar.specs.Rows.{Row, is_blank_line, indent_of, words_of}

-- the effect of the next line on a leaf. GoesOn: it belongs to the leaf, which continues. Closes: it belongs to the leaf and ends it.
-- Waits: it belongs to the leaf only if a later line does. Stops: the leaf has ended before it
pub data Continuation : Type 0 where
  GoesOn : Continuation
  Closes : Continuation
  Waits : Continuation
  Stops : Continuation

abbrev pub count_more : Continuation → ℕ → ℕ
count_more GoesOn n = suc n
count_more Closes n = 1
count_more Waits zero = 0
count_more Waits (suc n) = suc (suc n)
count_more Stops n = 0

-- the number of lines ahead that belong to a leaf
abbrev pub counted : (Row → Continuation) → List Row → ℕ
counted continuation [] = 0
counted continuation (r ∷ ahead) = count_more (continuation r) (counted continuation ahead)

abbrev pub is_empty : List ℕ → Bool
is_empty [] = true
is_empty (b ∷ bs) = false

abbrev pub all_pass : (ℕ → Bool) → List ℕ → Bool
all_pass p [] = true
all_pass p (b ∷ bs) = p b && all_pass p bs

abbrev pub are_blank : List ℕ → Bool
are_blank bs = all_pass is_blank_byte bs

-- no byte, or a space or tab first
abbrev pub is_parted : List ℕ → Bool
is_parted [] = true
is_parted (b ∷ bs) = is_blank_byte b

abbrev pub run : ℕ → List ℕ → ℕ
run b bs = length (take_while (λ c. c == b) bs)

-- three or more of the character, with blanks between and after them (CommonMark 4.1). Example: `* * *`
abbrev pub is_break_of : ℕ → List ℕ → Bool
is_break_of b bs = nat_le 3 (count_by (λ c. c == b) bs) && all_pass (λ c. (c == b) || is_blank_byte c) bs

-- a thematic break of `*`, `-` or `_` (CommonMark 4.1)
abbrev pub is_thematic_break : List ℕ → Bool
is_thematic_break bs = is_break_of asterisk bs || (is_break_of hyphen bs || is_break_of underscore bs)

-- an opening sequence of 1 to 6 `#`, then a blank or the line's end (CommonMark 4.2). Example: `## a`
abbrev pub is_atx_heading : List ℕ → Bool
is_atx_heading bs = nat_lt 0 (run number_sign bs) && (nat_le (run number_sign bs) 6 && is_parted (drop (run number_sign bs) bs))

-- a code fence: its indent, its character and length, and the info string after it (CommonMark 4.5)
pub record Fence : Type 0 where
  pub indented : ℕ
  pub delimiter : ℕ
  pub run_length : ℕ
  pub info : List ℕ

-- the bytes without the blanks at both ends
abbrev pub trimmed : List ℕ → List ℕ
trimmed bs = drop_end is_blank_byte (drop (length (take_while is_blank_byte bs)) bs)

abbrev pub fence_with : ℕ → ℕ → List ℕ → Fence
fence_with indented b bs = record { indented = indented; delimiter = b; run_length = run b bs; info = trimmed (drop (run b bs) bs) }

-- three or more backticks without a backtick in the info string, or three or more tildes (CommonMark 4.5). Example: `~~~ rust`
abbrev pub fence_of : ℕ → List ℕ → Option Fence
fence_of indented bs =
    if nat_le 3 (run backtick bs) && (count_by (λ c. c == backtick) (drop (run backtick bs) bs) == 0) then Some (fence_with indented backtick bs)
    else if nat_le 3 (run tilde bs) then Some (fence_with indented tilde bs)
    else None

-- at most three columns of indent, at least as long a run of the same character, and then only blanks (CommonMark 4.5)
abbrev pub closes_fence : Fence → Row → Bool
closes_fence fence r = nat_le (indent_of r) 3 && (nat_le fence.run_length (run fence.delimiter (words_of r)) && are_blank (drop (run fence.delimiter (words_of r)) (words_of r)))

-- the closing fence ends fenced code (CommonMark 4.5); any other line belongs to it
abbrev pub fence_continuation : Fence → Row → Continuation
fence_continuation fence r = if closes_fence fence r then Closes else GoesOn

-- an indented line continues indented code. Blank lines belong to the code only between two such lines (CommonMark 4.4)
abbrev pub code_continuation : Row → Continuation
code_continuation r = if is_blank_line r then Waits else if nat_le 4 (indent_of r) then GoesOn else Stops

-- one run of the character, and then only blanks (CommonMark 4.3)
abbrev pub is_run_of : ℕ → List ℕ → Bool
is_run_of b bs = nat_lt 0 (run b bs) && are_blank (drop (run b bs) bs)

abbrev pub underline_of : List ℕ → Option ℕ
underline_of bs = if is_run_of equals_sign bs then Some 1 else if is_run_of hyphen bs then Some 2 else None

-- the level of the heading that the line makes of a paragraph, if the line is a setext heading underline (CommonMark 4.3). Examples: 1 for
-- `===`, 2 for `---`
unfoldable pub underlines : Row → Option ℕ
underlines r = if r.lazy || nat_le 4 (indent_of r) then None else underline_of (words_of r)
