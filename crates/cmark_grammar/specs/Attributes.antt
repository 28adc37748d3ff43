-- The attributes of a heading (this profile's own): words between braces at the end of its content.
use Rattle.std.specs.Prelude.{ℕ, Bool, true, false, ◌==◌, ◌&&◌, ◌||◌, not, if◌then◌else◌, List, [], ◌∷◌, ◌++◌, length, drop, take_while, fold, Option, None, Some}
use Rattle.std.specs.Char.{is_ascii_whitespace}
use Rattle.cmark_grammar.specs.Characters.{equals_sign, left_brace, number_sign, period, right_brace}

-- a name with a value, if it has one
pub record Attribute : Type 0 where
  pub name : List ℕ
  pub value : Option (List ℕ)

-- the attributes of a heading: its id, its classes, and the others, in order
pub record Attributes : Type 0 where
  pub id : Option (List ℕ)
  pub classes : List (List ℕ)
  pub others : List Attribute

abbrev pub no_attributes : Attributes
no_attributes = record { id = None; classes = []; others = [] }

-- another byte before the parts. White space begins an empty part; any other byte becomes the first byte of the first part
abbrev pub put_byte : (parts_words : Bool) → ℕ → List (List ℕ) → List (List ℕ)
put_byte true b ws = [] ∷ ws
put_byte false b [] = (b ∷ []) ∷ []
put_byte false b (w ∷ ws) = (b ∷ w) ∷ ws

-- the words between ASCII white space (tab, line feed, form feed, carriage return, space); some of them are empty
abbrev pub words : List ℕ → List (List ℕ)
words [] = [] ∷ []
words (b ∷ bs) = put_byte (is_ascii_whitespace b) b (words bs)

abbrev pub is_no_equals : ℕ → Bool
is_no_equals b = not (b == equals_sign)

-- the bytes after `=`, if the bytes begin with it
abbrev pub value_after : List ℕ → Option (List ℕ)
value_after [] = None
value_after (b ∷ bs) = Some bs

-- a word with a `=` is a name and a value: the first `=` separates them. Another word is a name
abbrev pub attribute_of : List ℕ → Attribute
attribute_of bs = record { name = take_while is_no_equals bs; value = value_after (drop (length (take_while is_no_equals bs)) bs) }

-- another word: `#id` (the last one counts), `.class`, or an attribute. A word of one byte is ignored
abbrev pub with_word : Attributes → List ℕ → Attributes
with_word a [] = a
with_word a (b ∷ []) = a
with_word a (b ∷ (c ∷ bs)) =
    if b == number_sign then record a { id = Some (c ∷ bs) }
    else if b == period then record a { classes = a.classes ++ (c ∷ bs) ∷ [] }
    else record a { others = a.others ++ attribute_of (b ∷ (c ∷ bs)) ∷ [] }

-- the attributes that the words between the braces give. Example: `#top .wide lang=en`
abbrev pub attributes_of : List ℕ → Attributes
attributes_of bs = fold with_word no_attributes (words bs)

abbrev pub without_last : {A : Type 0} → List A → List A
without_last [] = []
without_last (x ∷ []) = []
without_last (x ∷ (y ∷ ys)) = x ∷ without_last (y ∷ ys)

-- elements, each with the byte that it is
module _ {A : Type 0} (byte : A → ℕ) where
  abbrev pub is_brace : A → Bool
  is_brace x = (byte x == left_brace) || (byte x == right_brace)

  -- a `}` at the end, and no other brace
  abbrev pub closes : List A → Bool
  closes [] = false
  closes (x ∷ []) = byte x == right_brace
  closes (x ∷ (y ∷ ys)) = not (is_brace x) && closes (y ∷ ys)

  -- a `{` at the beginning, a `}` at the end, and no other brace
  abbrev pub is_braced : List A → Bool
  is_braced [] = false
  is_braced (x ∷ xs) = (byte x == left_brace) && closes xs

  -- the elements before the braces at the end; all elements, if there are no braces
  abbrev pub before_braces : List A → List A
  before_braces [] = []
  before_braces (x ∷ xs) = if is_braced (x ∷ xs) then [] else x ∷ before_braces xs

  -- the elements between the braces at the end; nothing, if there are no braces
  abbrev pub inside_braces : List A → List A
  inside_braces [] = []
  inside_braces (x ∷ xs) = if is_braced (x ∷ xs) then without_last xs else inside_braces xs
