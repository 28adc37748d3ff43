-- The slots that are written if brackets form a footnote reference or a wikilink, as slots of the model.
use Rattle.std.specs.Prelude.{◌≡◌, ◌<◌, ◌≤◌, ℕ, ◌+◌, ◌-◌, if◌then◌else◌, List, [], ◌∷◌, ◌++◌, drop, get_or, length, take}
use Rattle.cmark_grammar.specs.Emphasis.{IsEmphasis, Pair}
use Rattle.cmark_grammar.specs.Items as items
use Rattle.cmark_grammar.specs.Options.{Options}
use Rattle.cmark_grammar.specs.Siblings.{wiki_tag}
use Rattle.cmark_grammar.specs.Spans.{Spans}
use Rattle.cmark_inline_model.specs.SlotRows as row
use Rattle.cmark_inline_model.specs.SlotRows.{seen}
use Rattle.cmark_leaf_text.specs.Reads.{place_of}
use Rattle.cmark_leaf_text.specs.declared.leaf_text.LeafText.{LeafText}
use Rattle.cmark_inline.specs.Footnoted.{reference_start}
use Rattle.cmark_slots.specs.MarkedSlots.{siblings_from}
use Rattle.cmark_slots.specs.SlotViews.{first_of, item_slot, shown_slot, shown_slots}
use Rattle.cmark_inline.specs.Wikilinks.{IsWikilink, Shows, has_pothole}
use Rattle.cmark_inline.specs.FormedSlots.{Forgets, dressed_after, wrapped}
use Rattle.cmark_slots.specs.declared.bracket.Bracket.{Bracket}
use Rattle.cmark_emphasis.specs.declared.run.PlacedRun.{PlacedRun}
use Rattle.cmark_slots.specs.declared.quote.PlacedQuote.{PlacedQuote}
use Rattle.cmark_slots.specs.declared.slot.Slot.{Slot}
use Rattle.cmark_slots.specs.declared.slot.SlotKind.TheVariants as kind
use Rattle.cmark_inline.specs.declared.state.InlineState.{InlineState}
use Rattle.cmark_inline.specs.declared.wikilink.Wikilink.{Wikilink}

-- ## Footnote references

-- the `!` of an image, which is a text before a footnote reference
abbrev pub mark_slot : Bracket → Slot
mark_slot bracket = record { kind = kind.Text; start = bracket.start; end = bracket.start + 1 }

abbrev pub mark_before : LeafText → Bracket → List row.Slot
mark_before leaf bracket = if bracket.is_image then shown_slot leaf [] [] (mark_slot bracket) ∷ [] else []

abbrev pub shown_reference : LeafText → Bracket → (label : List ℕ) → (end : ℕ) → row.Slot
shown_reference leaf bracket label end = item_slot (items.FootnoteReference label) (place_of leaf (reference_start bracket)) (place_of leaf (end - 1) + 1)

-- a footnote reference with this label has the slot of its bracket, or the next one after the `!` of an image. The slots after it are
-- nothing
pub record WritesReference (bracket : Bracket) (label : List ℕ) (end : ℕ) (old new : InlineState) : Type 0 where
  pub forgets : Forgets bracket old new
  pub hidden : List row.Slot
  pub nothing : seen hidden ≡ []
  pub slots : (leaf : LeafText) → shown_slots leaf new.texts.items new.links.items new.slots.items
      ≡ take bracket.slot (shown_slots leaf old.texts.items old.links.items old.slots.items) ++ (mark_before leaf bracket ++ (shown_reference leaf bracket label end ∷ hidden))

-- ## Wikilinks

-- the display text of a wikilink begins with the slot at the index `at`. The runs and quotes after `inside` have this slot or later ones.
-- Those between `doubled` and `inside` have earlier slots
pub record AreLeft (at : ℕ) (runs : List PlacedRun) (quotes : List PlacedQuote) (doubled inside : Bracket) : Type 0 where
  pub slot : inside.slot ≡ doubled.slot
  pub runs_order : doubled.runs ≤ inside.runs
  pub runs_before : (k : ℕ) (d : PlacedRun) → doubled.runs ≤ k → k < inside.runs → (get_or runs k d).slot < at
  pub runs_after : (d : PlacedRun) → inside.runs < length runs → at ≤ (get_or runs inside.runs d).slot
  pub quotes_order : doubled.quotes ≤ inside.quotes
  pub quotes_before : (k : ℕ) (d : PlacedQuote) → doubled.quotes ≤ k → k < inside.quotes → (get_or quotes k d).slot < at
  pub quotes_after : (d : PlacedQuote) → inside.quotes < length quotes → at ≤ (get_or quotes inside.quotes d).slot

-- the link or the image begins in the slot of the doubled bracket, around the slots that the wikilink shows, which are dressed
pub record WritesShown (options : Options) (text : List ℕ) (doubled : Bracket) (close : ℕ) (wikilink : Wikilink) (old new : InlineState) : Type 0 where
  pub forgets : Forgets doubled old new
  pub shown : List Slot
  pub at : ℕ
  pub shows : Shows text doubled close wikilink old.slots.items shown at
  pub inside : Bracket
  pub left : AreLeft at old.delimiters.placed.items old.quotes.placed.items doubled inside
  pub slots : (leaf : LeafText) (pairs : List Pair) (spans : Spans) (d : Slot) → IsEmphasis (siblings_from 0 (drop inside.runs old.delimiters.placed.items)) pairs spans
      → shown_slots leaf new.texts.items new.links.items new.slots.items
      ≡ wrapped doubled.slot (row.BeginSlot (wiki_tag doubled.is_image wikilink.name.now (has_pothole wikilink.display)) (first_of leaf (get_or old.slots.items doubled.slot d)) (place_of leaf (close + 1) + 1))
      (dressed_after options inside pairs old.delimiters.placed.items old.quotes.placed.items (shown_slots leaf old.texts.items old.links.items shown))

-- the wikilink between a doubled bracket and a closing one is written in this way
pub record WritesWikilink (options : Options) (leaf : LeafText) (text : List ℕ) (doubled : Bracket) (close : ℕ) (old new : InlineState) : Type 0 where
  pub wikilink : Wikilink
  pub is : IsWikilink leaf doubled close wikilink
  pub writes : WritesShown options text doubled close wikilink old new
