-- Examples of typographic quotes, computed.
use Rattle.std.specs.Prelude.{◌≡◌, ℕ, ◌==◌, ◌||◌, Bool, true, false, if◌then◌else◌, List, [], ◌∷◌, codes, drop, Option, Some, None}
use Rattle.std.proofs.Common.{refl}
use Rattle.ucd_category.proofs.Computing.{ucd_category}
use Rattle.cmark_grammar.specs.Flanking.{is_unicode_white_space, is_unicode_punctuation}
use Rattle.cmark_grammar.specs.Quotes.{Quote, quote_beside, quote_characters}

abbrev next_of : List ℕ → Option ℕ
next_of [] = None
next_of (c ∷ text) = Some c

abbrev is_quote : ℕ → Bool
is_quote c = (c == 34) || (c == 39)

abbrev put : Bool → Quote → List Quote → List Quote
put true quote quotes = quote ∷ quotes
put false quote quotes = quotes

-- the quotes of a text
abbrev quotes : Option ℕ → List ℕ → List Quote
quotes last [] = []
quotes last (c ∷ text) = put (is_quote c) (quote_beside (c == 34) last (next_of text)) (quotes (Some c) text)

abbrev first_or : ℕ → Bool → List ℕ → ℕ
first_or c is [] = c
first_or c is (q ∷ characters) = if is then q else c

abbrev rest_if : Bool → List ℕ → List ℕ
rest_if true characters = drop 1 characters
rest_if false characters = characters

-- these characters in the place of the quotes
abbrev replaced : List ℕ → List ℕ → List ℕ
replaced [] characters = []
replaced (c ∷ text) characters = first_or c (is_quote c) characters ∷ replaced text (rest_if (is_quote c) characters)

abbrev typographic : List ℕ → List ℕ
typographic text = replaced text (quote_characters [] (quotes None text))

a_name : typographic (codes "\"Hello,\" said the spider.\n\"'Shelob' is my name.\"") ≡ codes "“Hello,” said the spider.\n“‘Shelob’ is my name.”"
unfolding ucd_category is_unicode_white_space is_unicode_punctuation
a_name = refl

both_ends : typographic (codes "'He said, \"I want to go.\"'") ≡ codes "‘He said, “I want to go.”’"
unfolding ucd_category is_unicode_white_space is_unicode_punctuation
both_ends = refl

apostrophes : typographic (codes "'tis the season to be 'jolly'") ≡ codes "’tis the season to be ‘jolly’"
unfolding ucd_category is_unicode_white_space is_unicode_punctuation
apostrophes = refl

possessives : typographic (codes "'We'll use Jane's boat and John's truck,' Jenna said.") ≡ codes "‘We’ll use Jane’s boat and John’s truck,’ Jenna said."
unfolding ucd_category is_unicode_white_space is_unicode_punctuation
possessives = refl

no_closing_quote : typographic (codes "\"A paragraph with no closing quote.") ≡ codes "“A paragraph with no closing quote."
unfolding ucd_category is_unicode_white_space is_unicode_punctuation
no_closing_quote = refl

letters : typographic (codes "'A', 'B', and 'C' are letters.") ≡ codes "‘A’, ‘B’, and ‘C’ are letters."
unfolding ucd_category is_unicode_white_space is_unicode_punctuation
letters = refl

fields : typographic (codes "'Oak,' 'elm,' and 'beech' are names of trees.\nSo is 'pine.'") ≡ codes "‘Oak,’ ‘elm,’ and ‘beech’ are names of trees.\nSo is ‘pine.’"
unfolding ucd_category is_unicode_white_space is_unicode_punctuation
fields = refl

decades : typographic (codes "Were you alive in the '70s?") ≡ codes "Were you alive in the ’70s?"
unfolding ucd_category is_unicode_white_space is_unicode_punctuation
decades = refl

after_brackets : typographic (codes "[a]'s b' (\"c\")'d e'") ≡ codes "[a]’s b’ (“c”)’d e’"
unfolding ucd_category is_unicode_white_space is_unicode_punctuation
after_brackets = refl

both_can_both : typographic (codes "\"-\"-\"") ≡ codes "“-”-“"
unfolding ucd_category is_unicode_white_space is_unicode_punctuation
both_can_both = refl
