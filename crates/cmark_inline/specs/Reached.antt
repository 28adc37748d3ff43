-- How far a leaf is read, in the states of the code and of the grammar.
use Rattle.std.specs.Prelude.{◌≡◌, ℕ, suc, ◌-◌, false, ◌==◌, List, get_or, map, ◌<◌, length}
use Rattle.cmark_grammar.specs.Characters.{pipe}
use Rattle.cmark_grammar.specs.Emphasis.{Run}
use Rattle.cmark_grammar.specs.LeafReading.{Between}
use Rattle.cmark_grammar.specs.LeafText.{InTurn, Leaf, begin_of}
use Rattle.cmark_grammar.specs.Quotes.{Quote}
use Rattle.cmark_grammar.specs.Readers.{Reader}
use Rattle.cmark_leaf_text.specs.Reads.{is_cell_of, place_of, text_of}
use Rattle.cmark_leaf_text.specs.declared.leaf_text.LeafText.{LeafText}
use Rattle.cmark_emphasis.specs.Shown.{shown_quote, shown_whole}
use Rattle.cmark_inline_model.specs.BracketPass.{Pass}
use Rattle.cmark_inline_model.specs.LeafModel.{HaveLineEnds}
use Rattle.cmark_inline_model.specs.PlacedTokens.{AreLeafPlaces}
use Rattle.cmark_inline_model.specs.RowParts.{BracketPlace}
use Rattle.cmark_inline_model.specs.RowPasses.{IsReached}
use Rattle.cmark_slots.specs.MarkedSlots.{places_of}
use Rattle.cmark_slots.specs.SlotViews.{shown_slots}
use Rattle.cmark_slots.specs.declared.bracket.Bracket.{Bracket}
use Rattle.cmark_emphasis.specs.declared.run.PlacedRun.{PlacedRun}
use Rattle.cmark_slots.specs.declared.quote.PlacedQuote.{PlacedQuote}
use Rattle.cmark_inline.specs.declared.state.InlineState.{InlineState}

-- the grammar reads the leaf with this text, and `place` gives the place of each byte. The lines are in order in the source and end with
-- line endings, and no pipe is between them
pub record ReadsPlaces (leaf : LeafText) (reader : Reader) (read : Leaf) (place : ℕ → ℕ) : Type 0 where
  pub places : AreLeafPlaces reader read (text_of leaf) place
  pub cell : read.is_cell ≡ is_cell_of leaf
  pub bytes : (k : ℕ) → k < length (text_of leaf) → place_of leaf k ≡ place k
  pub first : begin_of read.stretches ≡ place 0
  pub last : 0 < length (text_of leaf) → place (length (text_of leaf)) ≡ suc (place (length (text_of leaf) - 1))
  pub turn : InTurn 0 read.stretches (length reader.source)
  pub lines : HaveLineEnds reader.source read.stretches
  pub pipes : (k x : ℕ) → suc k < length (text_of leaf) → place k < x → x < place (suc k) → (get_or reader.source x 0 == pipe) ≡ false

-- an opening bracket with the index of its slot, and with the numbers of runs and quotes before it
abbrev pub bracket_place : (place : ℕ → ℕ) → Bracket → BracketPlace
bracket_place place b = record {
  bracket = record { is_image = b.is_image; start = place b.start; end = place b.inside };
  slot = b.slot;
  runs = b.runs;
  quotes = b.quotes;
}

abbrev pub runs_of : List PlacedRun → List Run
runs_of placed = map shown_whole placed

abbrev pub quotes_of : List PlacedQuote → List Quote
quotes_of placed = map (λ (p : PlacedQuote). shown_quote p.quote) placed

-- the pass `p` of the grammar has read what the slots of this state represent, and its opening brackets are `bs`
abbrev pub HasRead : LeafText → Reader → Leaf → (place : ℕ → ℕ) → Between → Pass → List Bracket → InlineState → Type 0
HasRead leaf reader read place before p bs state =
    IsReached reader read before p (map (bracket_place place) bs) (shown_slots leaf state.texts.items state.links.items state.slots.items) (places_of state.delimiters.placed.items)
    (map (λ (p : PlacedQuote). p.slot) state.quotes.placed.items) (runs_of state.delimiters.placed.items) (quotes_of state.quotes.placed.items)
