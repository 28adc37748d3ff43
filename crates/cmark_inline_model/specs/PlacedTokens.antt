-- The token at an offset of a leaf, by the token of the leaf's text read as a leaf of one stretch.
use Rattle.std.specs.Prelude.{◌≡◌, ◌≤◌, ◌<◌, ◌-◌, ℕ, suc, Bool, true, false, ◌==◌, ◌&&◌, ◌||◌, List, [], ◌∷◌, get_or, drop, take, length, is_none, None}
use Rattle.cmark_grammar.specs.Characters.{carriage_return, exclamation_mark, less_than_sign, line_feed, question_mark}
use Rattle.cmark_grammar.specs.Answers.{Lookup}
use Rattle.cmark_grammar.specs.Autolinks.{autolink_in}
use Rattle.cmark_grammar.specs.InlineTokens.{from, before, item_at, begins_at, goes_on}
use Rattle.cmark_grammar.specs.Items.{ItemKind, Plain, Own, Autolink, Html, Item, Bracket, Token, Stands, Opens, Closes, Ends}
use Rattle.cmark_grammar.specs.LeafText.{Leaf}
use Rattle.cmark_grammar.specs.Letters.{first_is}
use Rattle.cmark_grammar.specs.Options.{Options}
use Rattle.cmark_grammar.specs.Readers.{Reader}
use Rattle.cmark_inline_model.specs.TextPlaces.{ArePlaces}

-- ## The text as a leaf of its own

abbrev pub one_stretch : (is_cell : Bool) → (text : List ℕ) → Leaf
one_stretch is_cell text = record { stretches = record { start = 0; end = length text } ∷ []; is_cell = is_cell }

-- its tokens depend on the options and on the entities
abbrev pub text_reader : Options → Lookup → (text : List ℕ) → Reader
text_reader options lookup text = record {
  source = text;
  options = options;
  lookup = lookup;
  definition = λ folded. None;
  has_footnote = λ folded. false;
  has_callback = false;
}

-- ## Offsets in the source

-- the first `count` bytes of the text are before the offset x of the source, and the others at it or after it
pub record IsParted (size : ℕ) (place : ℕ → ℕ) (x count : ℕ) : Type 0 where
  pub within : count ≤ size
  pub earlier : (k : ℕ) → k < count → place k < x
  pub later : (k : ℕ) → count ≤ k → k < size → x ≤ place k

-- a carriage return and the line feed after it, which are one line ending, are adjacent
abbrev pub HaveWholeEndings : (text : List ℕ) → (place : ℕ → ℕ) → Type 0
HaveWholeEndings text place = (k : ℕ) → suc k < length text → get_or text k 0 ≡ carriage_return → get_or text (suc k) 0 ≡ line_feed → place (suc k) ≡ suc (place k)

-- The bytes of a leaf's text have these offsets in the source, and no line ending is split. The bytes of the leaf before any offset of the
-- source are those of the text that have earlier offsets, and the bytes from there on are the others
pub record AreLeafPlaces (reader : Reader) (leaf : Leaf) (text : List ℕ) (place : ℕ → ℕ) : Type 0 where
  pub places : ArePlaces reader leaf text place
  pub front : (x count : ℕ) → IsParted (length text) place x count → before reader leaf x ≡ take count text
  pub rest : (x count : ℕ) → IsParted (length text) place x count → from reader leaf x ≡ drop count text
  pub inside : (k : ℕ) → k < length text → place k < length reader.source
  pub bytes : (k : ℕ) → k < length text → get_or reader.source (place k) 0 ≡ get_or text k 0
  pub endings : HaveWholeEndings text place

-- ## Tokens

-- an item ends after the last byte that it covers; if a line ends there, the next byte of the leaf is further on
abbrev pub placed_item : (place : ℕ → ℕ) → Item → Item
placed_item place x = record { kind = x.kind; start = place x.start; end = suc (place (x.end - 1)) }

abbrev pub placed_bracket : (place : ℕ → ℕ) → Bracket → Bracket
placed_bracket place b = record { is_image = b.is_image; start = place b.start; end = place b.end }

-- a token of the text, with offsets of the source
abbrev pub placed : (place : ℕ → ℕ) → Token → Token
placed place (Stands x resume) = Stands (placed_item place x) (place resume)
placed place (Opens b) = Opens (placed_bracket place b)
placed place (Closes b) = Closes (placed_bracket place b)
placed place Ends = Ends

-- markup that is searched in the source may open there, and no autolink begins: a comment, a declaration, a CDATA section or a processing
-- instruction
abbrev pub may_open_markup : (emails : Bool) → List ℕ → Bool
may_open_markup emails [] = false
may_open_markup emails (b ∷ bs) = (b == less_than_sign) && (is_none (autolink_in emails bs) && first_is (λ c. (c == exclamation_mark) || (c == question_mark)) bs)

-- the bytes of such an item are the text of its event, or the text inside it
abbrev pub is_as_written : ItemKind → Bool
is_as_written Plain = true
is_as_written Own = true
is_as_written (Autolink uri) = true
is_as_written Html = true
is_as_written _ = false

-- ## Texts

module _ (reader : Reader) (leaf : Leaf) where
  -- plain bytes begin at `at`, and end at `to` or earlier
  pub record StandsUpTo (at to : ℕ) : Type 0 where
    pub end : ℕ
    pub further : at < end
    pub within : end ≤ to
    pub token : begins_at reader leaf at ≡ item_at Plain at end

  -- no plain bytes begin at `to`, so a text before it ends there
  abbrev pub StopsAt : ℕ → Type 0
  StopsAt to = (more : ℕ → ℕ) → goes_on reader leaf (begins_at reader leaf to) to more ≡ to
