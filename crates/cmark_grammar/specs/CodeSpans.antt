-- Code spans (CommonMark 6.1).
use Rattle.std.specs.Prelude.{ℕ, ◌-◌, Bool, false, ◌==◌, ◌&&◌, not, nat_lt, if◌then◌else◌, List, [], ◌∷◌, ◌++◌, codes, length, drop, get_or, count_by, Option, Some, None, option_map}
use Rattle.std.specs.List.{prefix_len}
use Rattle.cmark_grammar.specs.Characters.{backtick, carriage_return, space}
use Rattle.cmark_grammar.specs.Letters.{after_while}
use Rattle.cmark_grammar.specs.Lines.{ends_line}
use Rattle.cmark_grammar.specs.LinkDefinitions.{Parsed, put}
use Rattle.cmark_grammar.specs.Tokens.{slice}

abbrev pub is_backtick : ℕ → Bool
is_backtick b = b == backtick

-- the number of backticks at the beginning
abbrev pub backticks : List ℕ → ℕ
backticks bs = prefix_len is_backtick bs

-- the bytes up to the first run of exactly `size` backticks, and the bytes from that run on. Goes_on: the byte before is a backtick, so
-- that no run begins here
abbrev pub up_to_run : (size : ℕ) → (goes_on : Bool) → List ℕ → Option Parsed
up_to_run size goes_on [] = None
up_to_run size goes_on (b ∷ bs) =
    if is_backtick b && (not goes_on && (backticks (b ∷ bs) == size)) then Some (record { bytes = []; following = b ∷ bs })
    else put b (up_to_run size (is_backtick b) bs)

abbrev pub after_run : (size : ℕ) → Parsed → Parsed
after_run size found = record { bytes = found.bytes; following = drop size found.following }

-- the content of a code span whose opening run is at the beginning, and the bytes after its closing run, which has an equal length.
-- Example: "``a`b`` c" has the content "a`b"
abbrev pub code_in : List ℕ → Option Parsed
code_in bs = if backticks bs == 0 then None else option_map (after_run (backticks bs)) (up_to_run (backticks bs) false (after_while is_backtick bs))

-- the bytes with `mark` in place of each line ending: a line feed, a carriage return, or both in this order
abbrev pub with_line_ends : (mark : List ℕ) → List ℕ → List ℕ
with_line_ends mark [] = []
with_line_ends mark (b ∷ bs) =
    if ends_line b bs then mark ++ with_line_ends mark bs
    else if b == carriage_return then with_line_ends mark bs
    else b ∷ with_line_ends mark bs

abbrev pub is_space : ℕ → Bool
is_space b = b == space

-- a space is at both ends, and not all bytes are spaces
abbrev pub is_padded : List ℕ → Bool
is_padded bs = is_space (get_or bs 0 0) && (is_space (get_or bs (length bs - 1) 0) && nat_lt 0 (count_by (λ b. not (is_space b)) bs))

-- without a space at each end
abbrev pub without_padding : List ℕ → List ℕ
without_padding bs = if is_padded bs then slice bs 1 (length bs - 1) else bs

-- the text of a code span: each line ending becomes a space; then, if both ends are spaces and not all bytes are, one space is removed from
-- each end
abbrev pub code_text : List ℕ → List ℕ
code_text bs = without_padding (with_line_ends (codes " ") bs)
