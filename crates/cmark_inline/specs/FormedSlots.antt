-- The slots that are written if brackets form something, as slots of the model.
use Rattle.std.specs.Prelude.{◌≡◌, ℕ, suc, ◌+◌, ◌-◌, ◌≤◌, List, [], ◌∷◌, ◌++◌, drop, get_or, length, map, take}
use Rattle.cmark_emphasis.specs.Least.{least_examined}
use Rattle.cmark_grammar.specs.Emphasis.{IsEmphasis, Pair, runs_of}
use Rattle.cmark_grammar.specs.Options.{Options}
use Rattle.cmark_grammar.specs.Siblings.{tag_by}
use Rattle.cmark_grammar.specs.Spans.{Spans}
use Rattle.cmark_leaf_text.specs.Reads.{place_of}
use Rattle.cmark_leaf_text.specs.declared.leaf_text.LeafText.{LeafText}
use Rattle.cmark_inline_model.specs.SlotRows as row
use Rattle.cmark_inline_model.specs.SlotRows.{marked, marks_by, quoted}
use Rattle.cmark_slots.specs.MarkedSlots.{places_of, siblings_from}
use Rattle.cmark_slots.specs.QuoteSlots.{characters_of}
use Rattle.cmark_references.specs.Links.{shown_link}
use Rattle.cmark_slots.specs.SlotViews.{first_of, shown_slots}
use Rattle.cmark_slots.specs.declared.bracket.Bracket.{Bracket}
use Rattle.cmark_emphasis.specs.declared.run.PlacedRun.{PlacedRun}
use Rattle.cmark_inline.specs.declared.link.Target.{Target}
use Rattle.cmark_slots.specs.declared.quote.PlacedQuote.{PlacedQuote}
use Rattle.cmark_slots.specs.declared.slot.Slot.{Slot}
use Rattle.cmark_slots.specs.declared.slot.SlotKind.TheVariants as kind
use Rattle.cmark_inline.specs.declared.state.InlineState.{InlineState}

-- the slots in which the quotes after an opening bracket are characters, and the pairs of the runs after it have written their marks
abbrev pub dressed_after : Options → Bracket → List Pair → List PlacedRun → List PlacedQuote → List row.Slot → List row.Slot
dressed_after options bracket pairs runs quotes slots =
    marked options (places_of (drop bracket.runs runs)) (marks_by (length (places_of (drop bracket.runs runs))) pairs)
    (quoted (map (λ (q : PlacedQuote). q.slot) (drop bracket.quotes quotes)) (characters_of (drop bracket.quotes quotes)) slots) []

abbrev pub end_slot : (close end : ℕ) → Slot
end_slot close end = record { kind = kind.End; start = close; end = end }

-- the slots with an element that begins in the slot at the index `at` and ends after the last slot
abbrev pub wrapped : (at : ℕ) → (begin : row.Slot) → List row.Slot → List row.Slot
wrapped at begin slots = take at slots ++ (begin ∷ (drop (suc at) slots ++ (row.EndSlot ∷ [])))

-- the runs and the quotes after an opening bracket are forgotten. The count of examined open runs does not fall
pub record Forgets (bracket : Bracket) (old new : InlineState) : Type 0 where
  pub runs : new.delimiters.placed.items ≡ take bracket.runs old.delimiters.placed.items
  pub quotes : new.quotes.placed.items ≡ take bracket.quotes old.quotes.placed.items
  pub examined : old.delimiters.examined ≤ new.delimiters.examined

-- a link or an image with this target begins in the slot of its bracket, around the later slots, which are dressed (`dressed_after`). The
-- count of examined open runs grows by at least `least_examined` of its runs
pub record WritesElement (options : Options) (bracket : Bracket) (target : Target) (old new : InlineState) : Type 0 where
  pub forgets : Forgets bracket old new
  pub examined : old.delimiters.examined + least_examined (runs_of (siblings_from 0 (drop bracket.runs old.delimiters.placed.items))) ≤ new.delimiters.examined
  pub slots : (leaf : LeafText) (pairs : List Pair) (spans : Spans) (d : Slot) → IsEmphasis (siblings_from 0 (drop bracket.runs old.delimiters.placed.items)) pairs spans
      → shown_slots leaf new.texts.items new.links.items new.slots.items
      ≡ wrapped bracket.slot (row.BeginSlot (tag_by bracket.is_image (shown_link target.link)) (first_of leaf (get_or old.slots.items bracket.slot d)) (place_of leaf (target.end - 1) + 1))
      (dressed_after options bracket pairs old.delimiters.placed.items old.quotes.placed.items (shown_slots leaf old.texts.items old.links.items old.slots.items))
