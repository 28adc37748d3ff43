-- Calls that continue the reading of a leaf, one after the other.
use Rattle.std.specs.Prelude.{Option}
use Rattle.std.proofs.Common.{ℕ, [], length, refl, sym, ◌∙◌}
use Rattle.cmark_grammar.specs.Answers.{Lookup}
use Rattle.cmark_grammar.specs.LeafText.{Leaf}
use Rattle.cmark_grammar.specs.Options.{Options}
use Rattle.cmark_grammar.specs.Readers.{Reader}
use Rattle.cmark_references.specs.declared.definitions.RefDefs.{RefDefs}
use Rattle.cmark_references.specs.declared.footnotes.FootnoteDefs.{FootnoteDefs}
use Rattle.cmark_leaf_text.specs.declared.leaf_text.LeafText.{LeafText}
use Rattle.cmark_values.specs.declared.text.CowStr.{CowStr}
use Rattle.cmark_slots.specs.Standing.{AreEnded}
use Rattle.cmark_inline.specs.CursorProgress.{ComesOn, ComesTo, IsCleared, IsUnderWay, StopsOn}
use Rattle.cmark_inline.specs.Decided.{ReadsSame}
use Rattle.cmark_inline.specs.Footnoted.{SameFootnotes}
use Rattle.cmark_inline.specs.Reached.{ReadsPlaces}
use Rattle.cmark_inline.specs.Resolved.{Stops, StopsAs}
use Rattle.cmark_inline.specs.declared.callback.BrokenLink.{BrokenLink}
use Rattle.cmark_inline.specs.declared.state.InlineState.{InlineState}
use Rattle.cmark_inline.specs.declared.step.Cursor.{Cursor}
use Rattle.cmark_inline.specs.declared.step.Sought.{Sought}
use Rattle.cmark_inline.proofs.ComeEnds.{begin-come}
use Rattle.cmark_inline.proofs.ReadingFrom.{nothing-stops, read-from}

module _ {F : Type 0} (R : F → BrokenLink → Option (CowStr × CowStr) → F → Type 0) (options : Options) (lookup : Lookup) (references : RefDefs) where
  -- footnotes with the same labels give the same reading
  reads-notes : (one other : FootnoteDefs) (leaf : LeafText) (reader : Reader) (read : Leaf) (place : ℕ → ℕ) → SameFootnotes one other → ReadsSame options lookup references one leaf reader read place → ReadsSame options lookup references other leaf reader read place
  reads-notes one other leaf reader read place e h = record {
    source = h.source;
    options_are = h.options_are;
    lookup_is = h.lookup_is;
    definitions = h.definitions;
    footnotes_are = λ folded. h.footnotes_are folded ∙ sym (e folded);
    callback = h.callback;
    cell = h.cell;
    places = h.places;
    bytes = h.bytes;
  }

  pub begin-comes : (sought : Sought) (footnotes : FootnoteDefs) (leaf : LeafText) (initial : F) (state : InlineState) → IsCleared state → ComesTo R options lookup references footnotes leaf state.expansion_left initial sought footnotes (record { pending = 0; at = 0 }) state initial
  begin-comes sought footnotes leaf initial state c = λ reader read place same places. begin-come leaf reader read place places R state.expansion_left initial sought footnotes state c refl

  pub comes-further : (footnotes notes others : FootnoteDefs) (leaf : LeafText) (expansion_left : ℕ) (initial : F) (sought found : Sought) (cursor next : Cursor) (old new : InlineState) (now later : F) → SameFootnotes footnotes notes
      → ComesTo R options lookup references footnotes leaf expansion_left initial sought notes cursor old now → ComesOn R options lookup references notes others leaf sought found cursor next old new now later
      → AreEnded leaf old.slots.items → ComesTo R options lookup references footnotes leaf expansion_left initial found others next new later
  comes-further footnotes notes others leaf expansion_left initial sought found cursor next old new now later e h k ended = λ reader read place same places.
      k reader read place (record { expansion_left = expansion_left; asked = [] }) footnotes initial (reads-notes footnotes notes leaf reader read place e same) places ended (h reader read place same places)

  -- ## If memory is refused

  -- a leaf that was read in part can be read to its end
  goes-under-way : (leaf : LeafText) (reader : Reader) (read : Leaf) (place : ℕ → ℕ) (expansion_left : ℕ) (initial now : F) → ReadsPlaces leaf reader read place
      → IsUnderWay R reader read (record { expansion_left = expansion_left; asked = [] }) initial now → StopsAs R reader read expansion_left initial now
  goes-under-way leaf reader read place expansion_left initial now places h = record {
    asked = h.p.state.asked;
    answered = h.answered;
    goes_on = read-from reader read (length reader.source) places.turn expansion_left h.p h.reads;
  }

  -- in a step of the loop
  pub step-stops : (footnotes notes : FootnoteDefs) (leaf : LeafText) (expansion_left : ℕ) (initial : F) (sought : Sought) (cursor : Cursor) (old : InlineState) (now later : F) → SameFootnotes footnotes notes
      → ComesTo R options lookup references footnotes leaf expansion_left initial sought notes cursor old now → StopsOn R options lookup references notes leaf sought cursor old now later
      → Stops R options lookup references footnotes leaf expansion_left initial later
  step-stops footnotes notes leaf expansion_left initial sought cursor old now later e h k = λ reader read place same places.
      goes-under-way leaf reader read place expansion_left initial later places
      (k reader read place (record { expansion_left = expansion_left; asked = [] }) footnotes initial (reads-notes footnotes notes leaf reader read place e same) places (h reader read place same places))

  -- after the loop
  pub loop-stops : (footnotes notes : FootnoteDefs) (leaf : LeafText) (expansion_left : ℕ) (initial : F) (sought : Sought) (cursor : Cursor) (old : InlineState) (now : F)
      → ComesTo R options lookup references footnotes leaf expansion_left initial sought notes cursor old now → Stops R options lookup references footnotes leaf expansion_left initial now
  loop-stops footnotes notes leaf expansion_left initial sought cursor old now h = λ reader read place same places.
      let c = (h reader read place same places).reached in
      goes-under-way leaf reader read place expansion_left initial now places (record { p = c.p; reads = c.has_read.reads; answered = c.answered })

  -- before the first step
  pub none-stops : (footnotes : FootnoteDefs) (leaf : LeafText) (expansion_left : ℕ) (now : F) → Stops R options lookup references footnotes leaf expansion_left now now
  none-stops footnotes leaf expansion_left now = λ reader read place same places. nothing-stops R reader read (length reader.source) places.turn expansion_left now
