-- The lines of a text (CommonMark 2.1). Example: the bytes `a`, CR, LF and `b` are two lines.
use Rattle.std.specs.Prelude.{ℕ, Bool, false, ◌==◌, ◌&&◌, ◌||◌, not, if◌then◌else◌, List, [], ◌∷◌, take_while}
use Rattle.cmark_grammar.specs.Characters.{carriage_return, line_feed}

abbrev pub begins_with_line_feed : List ℕ → Bool
begins_with_line_feed [] = false
begins_with_line_feed (b ∷ bs) = b == line_feed

-- a line ends after the byte `b`, after which come `bs`: after a line feed, and after a carriage return without a line feed after it
abbrev pub ends_line : ℕ → List ℕ → Bool
ends_line b bs = (b == line_feed) || ((b == carriage_return) && not (begins_with_line_feed bs))

-- the byte is put before the first line
abbrev pub onto : ℕ → List (List ℕ) → List (List ℕ)
onto b [] = (b ∷ []) ∷ []
onto b (line ∷ lines) = (b ∷ line) ∷ lines

-- the text, divided after each line ending. Each line keeps its ending, and the empty text has no line
abbrev pub lines : List ℕ → List (List ℕ)
lines [] = []
lines (b ∷ bs) = if ends_line b bs then (b ∷ []) ∷ lines bs else onto b (lines bs)

-- a byte that is not part of a line ending (CommonMark 2.1)
abbrev pub is_content : ℕ → Bool
is_content b = not (b == line_feed) && not (b == carriage_return)

-- a line without its line ending
abbrev pub content : List ℕ → List ℕ
content line = take_while is_content line

-- the number of bytes of the line ending at the beginning, if there is one
abbrev pub ending_len : List ℕ → ℕ
ending_len [] = 0
ending_len (b ∷ bs) = if (b == carriage_return) && begins_with_line_feed bs then 2 else 1
