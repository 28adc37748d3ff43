-- Quotation marks as typographic ones, if smart punctuation is on (this profile's own). Example: `"a"` becomes `“a”`.
use Rattle.std.specs.Prelude.{ℕ, Bool, true, false, not, ◌==◌, ◌&&◌, ◌||◌, if◌then◌else◌, Option, Some, None, List, [], ◌∷◌}
use Rattle.cmark_grammar.specs.Characters.{left_double_quotation_mark, left_single_quotation_mark, right_bracket, right_double_quotation_mark, right_parenthesis, right_single_quotation_mark}
use Rattle.cmark_grammar.specs.Flanking.{is_white_space_there, is_punctuation_there}

-- a quotation mark (`"` if it is double, else `'`), and whether it can open and close
pub record Quote : Type 0 where
  pub double : Bool
  pub opens : Bool
  pub closes : Bool

-- the end of a link's text or of its destination
abbrev pub is_closing_bracket_there : Option ℕ → Bool
is_closing_bracket_there None = false
is_closing_bracket_there (Some c) = (c == right_bracket) || (c == right_parenthesis)

-- a quotation mark can open if no white space follows it and white space or punctuation precedes it. For a single quote `]` and `)` do not
-- count as this punctuation
abbrev pub quote_opens : (double : Bool) → (before after : Option ℕ) → Bool
quote_opens double before after =
    not (is_white_space_there after)
    && (is_white_space_there before || (is_punctuation_there before && (double || not (is_closing_bracket_there before))))

-- a quotation mark can close if no white space precedes it and white space or punctuation follows it
abbrev pub quote_closes : (before after : Option ℕ) → Bool
quote_closes before after = not (is_white_space_there before) && (is_white_space_there after || is_punctuation_there after)

abbrev pub quote_beside : (double : Bool) → (before after : Option ℕ) → Quote
quote_beside double before after = record { double = double; opens = quote_opens double before after; closes = quote_closes before after }

-- a double quote is open after these quotes, the nearest first
abbrev pub is_double_open : List Quote → Bool
is_double_open [] = false
is_double_open (quote ∷ before) =
    if not quote.double then is_double_open before
    else if quote.closes && is_double_open before then false
    else quote.opens || is_double_open before

-- a single quote is open after these quotes, the nearest first
abbrev pub is_single_open : List Quote → Bool
is_single_open [] = false
is_single_open (quote ∷ before) =
    if quote.double then is_single_open before
    else if quote.closes && is_single_open before then false
    else quote.opens || is_single_open before

-- an open single quote is closed: the first later single quote that can open or close can close
abbrev pub is_closed_by : List Quote → Bool
is_closed_by [] = false
is_closed_by (quote ∷ after) =
    if quote.double then is_closed_by after
    else if quote.closes then true
    else if quote.opens then false
    else is_closed_by after

-- the character of a double quote after these: U+201D if it closes one, and else U+201C
abbrev pub double_character : (before : List Quote) → Quote → ℕ
double_character before quote = if quote.closes && is_double_open before then right_double_quotation_mark else left_double_quotation_mark

-- a single quote that closes no quote, and can open, becomes open
abbrev pub turns_open : (before : List Quote) → Quote → Bool
turns_open before quote = not (quote.closes && is_single_open before) && quote.opens

-- the character of a single quote between these: U+2018 if it opens and is closed, and else U+2019
abbrev pub single_character : (before : List Quote) → Quote → (after : List Quote) → ℕ
single_character before quote after = if turns_open before quote && is_closed_by after then left_single_quotation_mark else right_single_quotation_mark

abbrev pub quote_character : (before : List Quote) → Quote → (after : List Quote) → ℕ
quote_character before quote after = if quote.double then double_character before quote else single_character before quote after

-- the characters of the quotes of a list of siblings, after other quotes
abbrev pub quote_characters : (before quotes : List Quote) → List ℕ
quote_characters before [] = []
quote_characters before (quote ∷ after) = quote_character before quote after ∷ quote_characters (quote ∷ before) after
