-- The state of a pass over a leaf, and the slots of the parts that it has read.
use Rattle.std.specs.Prelude.{ℕ, suc, Bool, true, false, List, [], ◌∷◌, ◌++◌, drop, length, take}
use Rattle.cmark_grammar.specs.BracketDecisions.{decide}
use Rattle.cmark_grammar.specs.BracketReading.{Reads}
use Rattle.cmark_grammar.specs.Emphasis.{Pair, Run}
use Rattle.cmark_grammar.specs.InlineTokens.{token}
use Rattle.cmark_grammar.specs.Items.{ItemKind, Quoted, Delimiters, Autolink, FootnoteReference}
use Rattle.cmark_grammar.specs.LeafReading.{Between, entering}
use Rattle.cmark_grammar.specs.LeafText.{Leaf}
use Rattle.cmark_grammar.specs.Options.{Options}
use Rattle.cmark_grammar.specs.Parts.{Parts, Target}
use Rattle.cmark_grammar.specs.Questions.{AnyAnswer}
use Rattle.cmark_grammar.specs.Quotes.{Quote, quote_characters}
use Rattle.cmark_grammar.specs.Readers.{Reader}
use Rattle.cmark_grammar.specs.Siblings.{tag_by}
use Rattle.cmark_inline_model.specs.SiblingsModel.{siblings_of}
use Rattle.cmark_inline_model.specs.BracketPass.{Pass}
use Rattle.cmark_inline_model.specs.LikeSlots.{AreLike}
use Rattle.cmark_inline_model.specs.RowParts.{BracketPlace, IsRow, bytes_in}
use Rattle.cmark_inline_model.specs.SlotRows.{BeginSlot, EndSlot, Slot, LaysOut, marked, marks_by, quoted}

-- slots from this index of a row on that are like the slots of a list of parts
pub record StandsFor (reader : Reader) (at : ℕ) (piece : Parts) (slots : List Slot) (bytes quotes : List ℕ) : Type 0 where
  pub row : List Slot
  pub laid : LaysOut at (siblings_of reader.options piece) row bytes quotes
  pub like : AreLike reader.source slots row

-- from the start of the leaf the pass has read its parts, whatever the answers were, and these slots are like their row
pub record IsReached (reader : Reader) (leaf : Leaf) (before : Between) (p : Pass) (bs : List BracketPlace) (slots : List Slot) (bytes quotes : List ℕ) (runs : List Run) (quoted : List Quote) : Type 0 where
  pub reads : Reads (token reader leaf) (decide reader leaf) AnyAnswer (entering leaf before) p.here p.state
  pub row : List Slot
  pub is_row : IsRow reader.options bs p.here row bytes quotes runs quoted
  pub like : AreLike reader.source slots row

-- the number of bytes of runs before an opening bracket
abbrev pub bytes_before : BracketPlace → List Run → ℕ
bytes_before place runs = bytes_in (take place.runs runs)

-- the slots after the quotes after the bracket became characters and the pairs of the runs there have written their marks
abbrev pub dressed_after : Options → BracketPlace → List Pair → List Slot → (bytes quotes : List ℕ) → List Run → List Quote → List Slot
dressed_after options place pairs slots bytes quotes runs quotes_are =
    marked options (drop (bytes_before place runs) bytes) (marks_by (length (drop (bytes_before place runs) bytes)) pairs) (quoted (drop place.quotes quotes) (quote_characters [] (drop place.quotes quotes_are)) slots) []

-- the slots at the end, after all quotes became characters and all pairs have written their marks
abbrev pub dressed_slots : Options → List Pair → List Slot → (bytes quotes : List ℕ) → List Quote → List Slot
dressed_slots options pairs slots bytes quotes quotes_are = marked options bytes (marks_by (length bytes) pairs) (quoted quotes (quote_characters [] quotes_are) slots) []

-- a link or an image begins in the bracket's slot, and ends after the last slot
abbrev pub linked_slots : BracketPlace → Target → List Slot → List Slot
linked_slots place target slots =
    take place.slot slots ++ (BeginSlot (tag_by place.bracket.is_image target.linked) place.bracket.start target.end ∷ (drop (suc place.slot) slots ++ (EndSlot ∷ [])))

-- an item of this kind has one slot, and is neither a quote nor a delimiter run
abbrev pub has_own_slot : ItemKind → Bool
has_own_slot (Quoted quote) = false
has_own_slot (Delimiters run) = false
has_own_slot (Autolink uri) = false
has_own_slot (FootnoteReference label) = false
has_own_slot _ = true
