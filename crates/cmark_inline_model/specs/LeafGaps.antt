-- The bytes of the source between the lines of a leaf: the prefixes of the containers around it (CommonMark 5).
use Rattle.std.specs.Prelude.{◌≡◌, ◌<◌, ℕ, suc, Bool, true, false, ◌==◌, ◌||◌, List, [], ◌∷◌, get_or, length}
use Rattle.cmark_grammar.specs.Characters.{greater_than_sign, pipe}
use Rattle.cmark_grammar.specs.Columns.{is_blank_byte}
use Rattle.cmark_grammar.specs.LeafText.{Leaf}
use Rattle.cmark_grammar.specs.Readers.{Reader}
use Rattle.cmark_grammar.specs.SpanDocuments.{Segment, Given, Content}
use Rattle.cmark_inline_model.specs.TextPlaces.{place_in, text_of}

-- a blank, or the `>` of a block quote
abbrev pub is_prefix_byte : ℕ → Bool
is_prefix_byte b = is_blank_byte b || (b == greater_than_sign)

-- between the offsets of a byte of the text and of the next byte there are only blanks and `>`
abbrev pub HasPrefixesBetween : Reader → Leaf → Type 0
HasPrefixesBetween reader leaf = (k x : ℕ) → suc k < length (text_of reader leaf) → place_in reader leaf k < x → x < place_in reader leaf (suc k) → is_prefix_byte (get_or reader.source x 0) ≡ true

-- there is no pipe between them
abbrev pub HasNoPipesBetween : Reader → Leaf → Type 0
HasNoPipesBetween reader leaf = (k x : ℕ) → suc k < length (text_of reader leaf) → place_in reader leaf k < x → x < place_in reader leaf (suc k) → (get_or reader.source x 0 == pipe) ≡ false

-- each leaf has only prefixes between its bytes
abbrev pub HavePrefixesBetween : Reader → List Segment → Type 0
HavePrefixesBetween reader [] = Unit {0}
HavePrefixesBetween reader (Given r ∷ others) = HavePrefixesBetween reader others
HavePrefixesBetween reader (Content leaf ∷ others) = HasPrefixesBetween reader leaf × HavePrefixesBetween reader others

abbrev pub HaveNoPipesBetween : Reader → List Segment → Type 0
HaveNoPipesBetween reader [] = Unit {0}
HaveNoPipesBetween reader (Given r ∷ others) = HaveNoPipesBetween reader others
HaveNoPipesBetween reader (Content leaf ∷ others) = HasNoPipesBetween reader leaf × HaveNoPipesBetween reader others
