-- The leaves of a document, with the offsets of their bytes in the source, and texts whose bytes are all plain.
use Rattle.std.specs.Prelude.{◌≡◌, ◌<◌, ℕ, Bool, true, List, [], ◌∷◌, drop, get_or, length, None}
use Rattle.cmark_grammar.specs.Answers.{Lookup}
use Rattle.cmark_grammar.specs.Columns.{is_blank_byte}
use Rattle.cmark_grammar.specs.LeafText.{InTurn, Leaf}
use Rattle.cmark_grammar.specs.LineBreaks.{blank_break_in}
use Rattle.cmark_grammar.specs.Options.{Options}
use Rattle.cmark_grammar.specs.Readers.{Reader}
use Rattle.cmark_grammar.specs.SpanDocuments.{Segment, Given, Content}
use Rattle.cmark_inline_model.specs.LeafModel.{HaveLineEnds}
use Rattle.cmark_inline_model.specs.PlacedTokens.{AreLeafPlaces, StandsUpTo, one_stretch, text_reader}
use Rattle.cmark_inline_model.specs.TextPlaces.{place_in, text_of}

-- the stretches of a leaf are in order in the source, each but the last ends with a line ending, and the bytes of its text have their
-- offsets
pub record IsPlaced (reader : Reader) (leaf : Leaf) : Type 0 where
  pub turn : InTurn 0 leaf.stretches (length reader.source)
  pub lines : HaveLineEnds reader.source leaf.stretches
  pub places : AreLeafPlaces reader leaf (text_of reader leaf) (place_in reader leaf)

-- each leaf is placed
abbrev pub AreLeavesPlaced : Reader → List Segment → Type 0
AreLeavesPlaced reader [] = Unit {0}
AreLeavesPlaced reader (Given r ∷ others) = AreLeavesPlaced reader others
AreLeavesPlaced reader (Content leaf ∷ others) = IsPlaced reader leaf × AreLeavesPlaced reader others

-- at each byte of a text a plain item begins that ends in the text, except at blanks with which a line break begins
abbrev pub StandWhole : Options → Lookup → (is_cell : Bool) → (text : List ℕ) → Type 0
StandWhole options lookup is_cell text =
    (k : ℕ) → k < length text → (is_blank_byte (get_or text k 0) ≡ true → blank_break_in (drop k text) ≡ None) → StandsUpTo (text_reader options lookup text) (one_stretch is_cell text) k (length text)
