-- The spans of pairs, written into the slots of their bytes.
use Rattle.std.specs.Prelude.{◌≡◌, ◌⊎◌, ℕ, zero, suc, ◌+◌, ◌-◌, ◌<◌, ◌≤◌, List, [], ◌∷◌, ◌++◌, length, get_or, slice_set}
use Rattle.cmark_emphasis.specs.Shown.{shown_kind}
use Rattle.cmark_emphasis.specs.declared.span.SpanKind as code_kind
use Rattle.cmark_emphasis.specs.declared.run.PlacedRun.{PlacedRun}
use Rattle.cmark_grammar.specs.Emphasis.{IsEmphasis, Pair, kinds_of}
use Rattle.cmark_grammar.specs.Options.{Options}
use Rattle.cmark_grammar.specs.Spans.{Span, SpanKind, Spans, span_tag, span_width}
use Rattle.cmark_inline_model.specs.SlotRows as row
use Rattle.cmark_inline_model.specs.SlotRows.{marked, marks_by, spanned}
use Rattle.cmark_leaf_text.specs.declared.leaf_text.LeafText.{LeafText}
use Rattle.cmark_references.specs.declared.link.Link.{Link}
use Rattle.cmark_values.specs.declared.text.CowStr.{CowStr}
use Rattle.cmark_slots.specs.Cuts.{hidden}
use Rattle.cmark_slots.specs.MarkedSlots.{AreWhole, EndWithin, HaveBytes, SameBefore, places_of, siblings_from}
use Rattle.cmark_slots.specs.SlotViews.{shown_slots}
use Rattle.cmark_slots.specs.Slots.{AreSlots, NoNewLink}
use Rattle.cmark_slots.specs.Standing.{AreKnown, NamesNoMore}
use Rattle.cmark_slots.specs.declared.slot.Slot.{Slot}
use Rattle.cmark_slots.specs.declared.slot.SlotKind.TheVariants as kind

-- ## Spans of pairs. Their places are indices of slots

-- spans of these kinds around the slots between two indices, the innermost first
abbrev pub spans_around : List SpanKind → (from to : ℕ) → List Span
spans_around [] from to = []
spans_around (kind ∷ kinds) from to =
    record { kind = kind; start = from - span_width kind; end = to + span_width kind } ∷ spans_around kinds (from - span_width kind) (to + span_width kind)

abbrev pub spans_of_pair : Pair → List Span
spans_of_pair pair = spans_around (kinds_of pair.delimiter pair.count) pair.from pair.to

abbrev pub spans_of_pairs : List Pair → List Span
spans_of_pairs [] = []
spans_of_pairs (pair ∷ pairs) = spans_of_pair pair ++ spans_of_pairs pairs

-- from the slot of the first byte that opens it to the slot of the last that closes it
abbrev pub span_between : code_kind.SpanKind → (first last : ℕ) → Span
span_between kind first last = record { kind = shown_kind kind; start = first; end = last + 1 }

-- ## Slots of the model

-- the second of two bytes that open a span, and the first of two that close it, become Nothing
abbrev pub inner_used : (width first last : ℕ) → List row.Slot → List row.Slot
inner_used zero first last slots = slots
inner_used (suc zero) first last slots = slots
inner_used (suc (suc n)) first last slots = slice_set (slice_set slots (suc first) row.NothingSlot) (last - 1) row.NothingSlot

-- the first byte begins the span's element and the last ends it, or the span becomes one text
abbrev pub write_span : Options → Span → List row.Slot → List row.Slot
write_span options span slots = spanned (span_tag options span.kind) span.start (span.end - 1) (inner_used (span_width span.kind) span.start (span.end - 1) slots)

abbrev pub write_spans : Options → List Span → List row.Slot → List row.Slot
write_spans options [] slots = slots
write_spans options (span ∷ spans) slots = write_spans options spans (write_span options span slots)

-- ## Slots that are written

-- the second of two bytes that open a span, and the first of two that close it, become Nothing
abbrev pub hidden_inside : (width first last : ℕ) → (d : Slot) → List Slot → List Slot
hidden_inside zero first last d slots = slots
hidden_inside (suc zero) first last d slots = slots
hidden_inside (suc (suc n)) first last d slots =
    slice_set (slice_set slots (first + 1) (hidden (get_or slots (first + 1) d))) (last - 1) (hidden (get_or (slice_set slots (first + 1) (hidden (get_or slots (first + 1) d))) (last - 1) d))

-- ## Slots into which spans can be written

-- each byte of the span is a text, and the first ends no later than the last
pub record HasTexts (slots : List Slot) (span : Span) : Type 0 where
  pub wide : span.start + (span_width span.kind + span_width span.kind) ≤ span.end
  pub within : span.end ≤ length slots
  pub opening : (j : ℕ) (d : Slot) → j < span_width span.kind → (get_or slots (span.start + j) d).kind ≡ kind.Text
  pub closing : (j : ℕ) (d : Slot) → j < span_width span.kind → (get_or slots (span.end - suc j) d).kind ≡ kind.Text
  pub order : (d : Slot) → (get_or slots span.start d).end ≤ (get_or slots (span.end - 1) d).end

-- the bytes of the other span are around this one, or after it
abbrev pub IsApart : (span other : Span) → Type 0
IsApart span other = ((other.start + span_width other.kind ≤ span.start) × (span.end + span_width other.kind ≤ other.end)) ⊎ (span.end ≤ other.start)

abbrev pub AreApartFrom : Span → List Span → Type 0
AreApartFrom span [] = Unit {0}
AreApartFrom span (other ∷ others) = IsApart span other × AreApartFrom span others

abbrev pub AreInTurn : List Span → Type 0
AreInTurn [] = Unit {0}
AreInTurn (span ∷ spans) = AreApartFrom span spans × AreInTurn spans

abbrev pub HaveTextsOf : List Slot → List Span → Type 0
HaveTextsOf slots [] = Unit {0}
HaveTextsOf slots (span ∷ spans) = HasTexts slots span × HaveTextsOf slots spans

-- these spans can be written one after the other
pub record CanWrite (slots : List Slot) (spans : List Span) : Type 0 where
  pub whole : AreWhole slots
  pub texts : HaveTextsOf slots spans
  pub turn : AreInTurn spans

-- the bytes that open each pair are there
abbrev pub AreOpen : List Pair → Type 0
AreOpen [] = Unit {0}
AreOpen (pair ∷ pairs) = (pair.count ≤ pair.from) × AreOpen pairs

-- no span begins before an index
abbrev pub BeginFrom : (low : ℕ) → List Span → Type 0
BeginFrom low [] = Unit {0}
BeginFrom low (span ∷ spans) = (low ≤ span.start) × BeginFrom low spans

-- ## Facts that the writing preserves

pub record KeepsSlots (old new : List Slot) : Type 0 where
  pub slots : (text : List ℕ) (place : ℕ) → AreSlots text place old → AreSlots text place new
  pub size : length new ≡ length old
  pub links : NoNewLink old new
  pub within : EndWithin old → EndWithin new
  pub names : NamesNoMore old new

-- These runs, of one list of siblings, can be resolved: each of their bytes has a text in a slot of its own, and their bytes and lengths are
-- those of delimiter runs
pub record CanResolve (slots : List Slot) (placed : List PlacedRun) : Type 0 where
  pub bytes : HaveBytes slots 0 0 placed
  pub whole : AreWhole slots
  pub known : AreKnown placed

-- the spans of these runs, which are those of one list of siblings, are written into their slots
pub record AreResolved (options : Options) (placed : List PlacedRun) (old new : List Slot) : Type 0 where
  pub keeps : KeepsSlots old new
  pub whole : AreWhole new
  pub before : (from place : ℕ) → HaveBytes old from place placed → SameBefore from old new
  pub marks : (leaf : LeafText) (texts : List CowStr) (links : List Link) (pairs : List Pair) (spans : Spans) → IsEmphasis (siblings_from 0 placed) pairs spans
      → shown_slots leaf texts links new ≡ marked options (places_of placed) (marks_by (length (places_of placed)) pairs) (shown_slots leaf texts links old) []
