-- Whether more text after a text can change the definition at its beginning.
use Rattle.std.specs.Prelude.{◌≡◌, ℕ, Bool, true, false, ◌==◌, ◌&&◌, ◌||◌, not, if◌then◌else◌, List, [], ◌∷◌, ◌++◌, Option, Some, None, option_map}
use Rattle.cmark_grammar.specs.Characters.{apostrophe, colon, left_bracket, left_parenthesis, quotation_mark, right_bracket, right_parenthesis}
use Rattle.cmark_grammar.specs.Leaves.{is_empty}
use Rattle.cmark_grammar.specs.Letters.{first_is}
use Rattle.cmark_grammar.specs.LinkDefinitions.{Parsed, Defined, escapes_next, label_in, after_leading_blanks, after_separator, definition_in}

-- the part that was read, with more bytes after it
abbrev pub read_before : List ℕ → Parsed → Parsed
read_before more found = record { bytes = found.bytes; following = found.following ++ more }

abbrev pub defined_before : List ℕ → Defined → Defined
defined_before more found = record { definition = found.definition; following = found.following ++ more }

-- what follows the text does not change the definition at its beginning, or that there is none
abbrev pub IsSettled : List ℕ → Type 0
IsSettled bs = (more : List ℕ) → definition_in (bs ++ more) ≡ option_map (defined_before more) (definition_in bs)

-- these bytes contain an unescaped closer or refused byte
abbrev pub ends_in : (escaped : Bool) → (closer refused : ℕ) → List ℕ → Bool
ends_in escaped closer refused [] = false
ends_in escaped closer refused (b ∷ bs) = if not escaped && ((b == closer) || (b == refused)) then true else ends_in (escapes_next escaped b) closer refused bs

-- the title that begins here ends, or none begins
abbrev pub title_ends : List ℕ → Bool
title_ends [] = false
title_ends (b ∷ bs) =
    if (b == quotation_mark) || (b == apostrophe) then ends_in false b b bs
    else if b == left_parenthesis then ends_in false right_parenthesis left_parenthesis bs
    else true

-- after a title something else than blanks must follow, and after a destination a title that ends, or no title
abbrev pub end_settles : Option (List ℕ) → (following : List ℕ) → Bool
end_settles (Some title) following = not (is_empty (after_leading_blanks following))
end_settles None following = title_ends (after_separator following)

-- the label ends, if it is one, and no colon follows
abbrev pub lacks_colon : Option Parsed → Bool
lacks_colon None = true
lacks_colon (Some label) = first_is (λ b. not (b == colon)) label.following

abbrev pub label_settles : List ℕ → Bool
label_settles [] = false
label_settles (b ∷ bs) = (b == left_bracket) && (ends_in false right_bracket left_bracket bs && lacks_colon (label_in bs))

abbrev pub settles_as : List ℕ → Option Defined → Bool
settles_as bs None = label_settles bs
settles_as bs (Some found) = end_settles found.definition.title found.following

abbrev pub settles : List ℕ → Bool
settles bs = settles_as bs (definition_in bs)
