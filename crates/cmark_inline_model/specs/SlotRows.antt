-- A list of siblings as a row of slots. The spans of the siblings write marks into the slots of the bytes of its runs, and the events are
-- read from the row.
use Rattle.std.specs.Prelude.{◌≡◌, ℕ, zero, suc, ◌+◌, ◌-◌, List, [], ◌∷◌, ◌++◌, length, drop, get_or, slice_set, encode_utf8, Option, Some, None}
use Rattle.cmark_grammar.specs.Emphasis.{Pair}
use Rattle.cmark_grammar.specs.Event.{Start, End, Ranged}
use Rattle.cmark_grammar.specs.InlineReading.{event_of, over}
use Rattle.cmark_grammar.specs.Items.{ItemKind, Own, Written, Quoted, Delimiters, FootnoteReference, Item}
use Rattle.cmark_grammar.specs.Options.{Options}
use Rattle.cmark_grammar.specs.Siblings.{Inline, Nil, Single, Around, item}
use Rattle.cmark_inline_model.specs.SpanEntries.{stays, entries_of, mark_pairs}
use Rattle.cmark_grammar.specs.Spans as spans
use Rattle.cmark_grammar.specs.Spans.{SpanKind, Emphasis, Strong, SingleTilde, DoubleTilde, Caret, DoubleEquals, span_tag, span_width, Spans}
use Rattle.cmark_grammar.specs.Tag.{Tag}
use Rattle.cmark_grammar.specs.TagEnd.{end_of}

-- an item; the start of an element, with its whole range; the end of the element that began last; or nothing, if the bytes belong to
-- another slot
pub data Slot : Type 0 where
  ItemSlot : (item : Item) → Slot
  BeginSlot : (tag : Tag) → (start end : ℕ) → Slot
  EndSlot : Slot
  NothingSlot : Slot

-- the slots other than Nothing
abbrev pub seen : List Slot → List Slot
seen [] = []
seen (ItemSlot x ∷ slots) = ItemSlot x ∷ seen slots
seen (BeginSlot tag start end ∷ slots) = BeginSlot tag start end ∷ seen slots
seen (EndSlot ∷ slots) = EndSlot ∷ seen slots
seen (NothingSlot ∷ slots) = seen slots

-- the slots of spans
abbrev pub slots_of : Inline → List Slot
slots_of Nil = []
slots_of (Single x after) = ItemSlot x ∷ slots_of after
slots_of (Around tag start end inside after) = BeginSlot tag start end ∷ (slots_of inside ++ (EndSlot ∷ slots_of after))

-- ## Siblings before their quotes and their emphasis are resolved: each byte of a run has a slot of its own

abbrev pub run_slots : (start size : ℕ) → (after : List Slot) → List Slot
run_slots start zero after = after
run_slots start (suc size) after = ItemSlot (item Own start (suc start)) ∷ run_slots (suc start) size after

abbrev pub run_places : (at size : ℕ) → (after : List ℕ) → List ℕ
run_places at zero after = after
run_places at (suc size) after = at ∷ run_places (suc at) size after

abbrev pub LaysItem : ItemKind → Item → (After : ℕ → List Slot → List ℕ → List ℕ → Type 0) → (at : ℕ) → List Slot → (bytes quotes : List ℕ) → Type 0
LaysItem (Delimiters run) x After at slots bytes quotes =
    (more : List Slot) × (others : List ℕ) × (slots ≡ run_slots x.start run.run_length more) × (bytes ≡ run_places at run.run_length others) × After (at + run.run_length) more others quotes
LaysItem (Quoted quote) x After at slots bytes quotes =
    (more : List Slot) × (others : List ℕ) × (slots ≡ ItemSlot x ∷ more) × (quotes ≡ at ∷ others) × After (suc at) more bytes others
LaysItem (FootnoteReference label) x After at slots bytes quotes =
    (hidden more : List Slot) × (seen hidden ≡ []) × (slots ≡ ItemSlot x ∷ (hidden ++ more)) × After (at + (length hidden + 1)) more bytes quotes
LaysItem _ x After at slots bytes quotes = (more : List Slot) × (slots ≡ ItemSlot x ∷ more) × After (suc at) more bytes quotes

-- siblings laid out as slots from this index of the row on, with the indices of the bytes of their runs and of their quotes. Each item has
-- a slot; an element has a slot for its start, the slots of its content, and a slot for its end. After a footnote reference come the slots
-- of the content of its brackets, which are Nothing
abbrev pub LaysOut : (at : ℕ) → Inline → List Slot → (bytes quotes : List ℕ) → Type 0
LaysOut at Nil slots bytes quotes = (slots ≡ []) × (bytes ≡ []) × (quotes ≡ [])
LaysOut at (Single x after) slots bytes quotes = LaysItem x.kind x (λ a b c d. LaysOut a after b c d) at slots bytes quotes
LaysOut at (Around tag start end inside after) slots bytes quotes =
    (inner more : List Slot) × (seen inner ≡ slots_of inside) × (slots ≡ BeginSlot tag start end ∷ (inner ++ (EndSlot ∷ more)))
    × LaysOut (at + (length inner + 2)) after more bytes quotes

-- such a row, with its indices
abbrev pub item_slots : ItemKind → Item → List Slot → List Slot
item_slots (Delimiters run) x after = run_slots x.start run.run_length after
item_slots _ x after = ItemSlot x ∷ after

abbrev pub row_of : Inline → List Slot
row_of Nil = []
row_of (Single x after) = item_slots x.kind x (row_of after)
row_of (Around tag start end inside after) = BeginSlot tag start end ∷ (slots_of inside ++ (EndSlot ∷ row_of after))

abbrev pub item_places : ItemKind → (at : ℕ) → (ℕ → List ℕ) → List ℕ
item_places (Delimiters run) at after = run_places at run.run_length (after (at + run.run_length))
item_places _ at after = after (suc at)

abbrev pub byte_places : (at : ℕ) → Inline → List ℕ
byte_places at Nil = []
byte_places at (Single x after) = item_places x.kind at (λ a. byte_places a after)
byte_places at (Around tag start end inside after) = byte_places (at + (length (slots_of inside) + 2)) after

abbrev pub item_quotes : ItemKind → (at : ℕ) → (ℕ → List ℕ) → List ℕ
item_quotes (Delimiters run) at after = after (at + run.run_length)
item_quotes (Quoted quote) at after = at ∷ after (suc at)
item_quotes _ at after = after (suc at)

abbrev pub quote_places : (at : ℕ) → Inline → List ℕ
quote_places at Nil = []
quote_places at (Single x after) = item_quotes x.kind at (λ a. quote_places a after)
quote_places at (Around tag start end inside after) = quote_places (at + (length (slots_of inside) + 2)) after

-- ## A slot is replaced

abbrev pub start_in : Slot → ℕ
start_in (ItemSlot x) = x.start
start_in (BeginSlot tag start end) = start
start_in EndSlot = 0
start_in NothingSlot = 0

abbrev pub end_in : Slot → ℕ
end_in (ItemSlot x) = x.end
end_in (BeginSlot tag start end) = end
end_in EndSlot = 0
end_in NothingSlot = 0

-- a character instead of the quote in the slot
abbrev pub character_slot : (character : ℕ) → Slot → Slot
character_slot character slot = ItemSlot (item (Written (encode_utf8 character)) (start_in slot) (end_in slot))

-- the quotes at these indices become these characters, one after the other
abbrev pub quoted : (quotes characters : List ℕ) → List Slot → List Slot
quoted [] characters slots = slots
quoted (at ∷ quotes) characters slots =
    quoted quotes (drop 1 characters) (slice_set slots at (character_slot (get_or characters 0 0) (get_or slots at NothingSlot)))

-- ## The marks of spans on the bytes of the runs

-- a byte stays a text, or is the first that opens a span, or the last that closes it. Blank is the second byte that opens a span, or the
-- first of two that close it
pub data Mark : Type 0 where
  Stays : Mark
  Begins : (kind : SpanKind) → Mark
  Ends : (kind : SpanKind) → Mark
  Blank : Mark

abbrev pub opening : SpanKind → List Mark
opening Emphasis = Begins Emphasis ∷ []
opening Strong = Begins Strong ∷ (Blank ∷ [])
opening SingleTilde = Begins SingleTilde ∷ []
opening DoubleTilde = Begins DoubleTilde ∷ (Blank ∷ [])
opening Caret = Begins Caret ∷ []
opening DoubleEquals = Begins DoubleEquals ∷ (Blank ∷ [])

abbrev pub closing : SpanKind → List Mark
closing Emphasis = Ends Emphasis ∷ []
closing Strong = Blank ∷ (Ends Strong ∷ [])
closing SingleTilde = Ends SingleTilde ∷ []
closing DoubleTilde = Blank ∷ (Ends DoubleTilde ∷ [])
closing Caret = Ends Caret ∷ []
closing DoubleEquals = Blank ∷ (Ends DoubleEquals ∷ [])

abbrev pub marks_of : Spans → List Mark
marks_of spans = entries_of Mark Stays opening closing spans

-- the marks that pairs write: at first each of `count` bytes stays, and then pair after pair is written
abbrev pub marks_by : (count : ℕ) → List Pair → List Mark
marks_by count pairs = mark_pairs Mark Stays opening closing pairs (stays Mark Stays opening closing count)

-- there is nothing between the two bytes that open a span of width 2, nor between the two that close it. IsEmpty says that there is nothing
-- before the byte with this index
abbrev pub AreTight : (IsEmpty : ℕ → Type 0) → Spans → Type 0
AreTight IsEmpty spans.Nil = Unit {0}
AreTight IsEmpty (spans.Single at after) = AreTight IsEmpty after
AreTight IsEmpty (spans.Around span inside after) =
    (span_width span.kind ≡ 2 → IsEmpty (suc span.start) × IsEmpty (span.end - 1)) × AreTight IsEmpty inside × AreTight IsEmpty after

-- ## The marks written into the slots

-- `count` slots from an index on become Nothing
abbrev pub used_up : (at count : ℕ) → List Slot → List Slot
used_up at zero slots = slots
used_up at (suc count) slots = used_up (suc at) count (slice_set slots at NothingSlot)

-- from the first slot to the last: an element around the slots between them, or one text over all of them
abbrev pub spanned : Option Tag → (first last : ℕ) → List Slot → List Slot
spanned (Some tag) first last slots =
    slice_set (slice_set slots last EndSlot) first (BeginSlot tag (start_in (get_or slots first NothingSlot)) (end_in (get_or slots last NothingSlot)))
spanned None first last slots =
    slice_set (used_up (suc first) (last - first) slots) first (ItemSlot (item Own (start_in (get_or slots first NothingSlot)) (end_in (get_or slots last NothingSlot))))

-- the marks of the bytes at these indices, in order; `begun` has the indices at which open spans began, the last first
abbrev pub marked : Options → (bytes : List ℕ) → List Mark → List Slot → (begun : List ℕ) → List Slot
marked options [] marks slots begun = slots
marked options (at ∷ bytes) [] slots begun = slots
marked options (at ∷ bytes) (Stays ∷ marks) slots begun = marked options bytes marks slots begun
marked options (at ∷ bytes) (Begins kind ∷ marks) slots begun = marked options bytes marks slots (at ∷ begun)
marked options (at ∷ bytes) (Ends kind ∷ marks) slots [] = marked options bytes marks slots []
marked options (at ∷ bytes) (Ends kind ∷ marks) slots (first ∷ begun) = marked options bytes marks (spanned (span_tag options kind) first at slots) begun
marked options (at ∷ bytes) (Blank ∷ marks) slots begun = marked options bytes marks (slice_set slots at NothingSlot) begun

-- the earlier slots are unchanged, and after them as many slots as before hold these spans
pub record StandAfter (before slots : List Slot) (result : Inline) (now : List Slot) : Type 0 where
  pub own : List Slot
  pub cut : now ≡ before ++ own
  pub as_many : length own ≡ length slots
  pub stand_for : seen own ≡ slots_of result

-- ## The events that are read from slots

module _ (source : List ℕ) where
  -- `opened` has the ends of the open elements, the last first; after the last slot these end
  abbrev pub slot_events : List Slot → (opened : List Ranged) → List Ranged
  slot_events [] opened = opened
  slot_events (ItemSlot x ∷ slots) opened = over source x.start x.end (event_of source x x.kind) ∷ slot_events slots opened
  slot_events (BeginSlot tag start end ∷ slots) opened =
      over source start end (Start tag) ∷ slot_events slots (over source start end (End (end_of tag)) ∷ opened)
  slot_events (EndSlot ∷ slots) [] = slot_events slots []
  slot_events (EndSlot ∷ slots) (last ∷ opened) = last ∷ slot_events slots opened
  slot_events (NothingSlot ∷ slots) opened = slot_events slots opened
