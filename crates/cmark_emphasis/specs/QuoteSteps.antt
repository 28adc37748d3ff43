-- Quotes one after the other: the quotes that are open after them, and their characters so far.
use Rattle.std.specs.Prelude.{◌≡◌, ℕ, Bool, true, false, ◌&&◌, ◌||◌, is_some, if◌then◌else◌, Option, Some, None, List, [], ◌∷◌, ◌++◌, length, slice_set}
use Rattle.cmark_grammar.specs.Quotes.{Quote, is_double_open, double_character, turns_open}

-- the index of the open single quote after a quote at this index
abbrev pub single_after : Quote → (at : ℕ) → Option ℕ → Option ℕ
single_after quote at opened = if quote.closes && is_some opened then None else if quote.opens then Some at else opened

abbrev pub double_after : Quote → Bool → Bool
double_after quote opened = if quote.closes && opened then false else quote.opens || opened

abbrev pub double_character_after : Quote → Bool → ℕ
double_character_after quote opened = if quote.closes && opened then 8221 else 8220

-- the single quote that is open is closed
abbrev pub turned : Bool → Option ℕ → List ℕ → List ℕ
turned false opened characters = characters
turned true None characters = characters
turned true (Some i) characters = slice_set characters i 8216

-- the index of the open single quote after these quotes, the nearest first
abbrev pub open_single : List Quote → Option ℕ
open_single [] = None
open_single (quote ∷ before) = if quote.double then open_single before else single_after quote (length before) (open_single before)

-- whether the quote that is open before a quote is closed by it or by later ones
abbrev pub closed_from : Quote → Bool → Bool
closed_from quote closed = if quote.double then closed else if quote.closes then true else if quote.opens then false else closed

abbrev pub character_so_far : (before : List Quote) → Quote → Bool → ℕ
character_so_far before quote closed =
    if quote.double then double_character before quote
    else if turns_open before quote && closed then 8216
    else 8217

-- the characters of these quotes, the nearest first, if the quote that is open after them is closed later or not
abbrev pub so_far : List Quote → (closed : Bool) → List ℕ
so_far [] closed = []
so_far (quote ∷ before) closed = so_far before (closed_from quote closed) ++ character_so_far before quote closed ∷ []

-- the state after these quotes, the nearest first
pub record IsAfter (before : List Quote) (single : Option ℕ) (double : Bool) (characters : List ℕ) : Type 0 where
  pub single_is : single ≡ open_single before
  pub double_is : double ≡ is_double_open before
  pub characters_are : characters ≡ so_far before false
