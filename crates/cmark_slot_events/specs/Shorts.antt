-- The events of a leaf that are passed on without an `Event`.
use Rattle.std.specs.Prelude.{◌≡◌, ◌+◌, ◌-◌, ◌<◌, ℕ, List, [], ◌∷◌}
use Rattle.cmark_grammar.specs.CodeSpans.{code_text}
use Rattle.cmark_grammar.specs.Event.{Ranged}
use Rattle.cmark_grammar.specs.InlineTokens.{as_in}
use Rattle.cmark_grammar.specs.Tokens.{slice}
use Rattle.cmark_leaf_text.specs.declared.leaf_text.LeafText.{LeafText}
use Rattle.cmark_leaf_text.specs.Reads.{is_cell_of, place_of, source_of, text_of}
use Rattle.cmark_text.specs.declared.short.Step.{Step}
use Rattle.cmark_text.specs.declared.short.Step.TheVariants as next
use Rattle.cmark_text.specs.declared.short.Short.{Short}
use Rattle.cmark_text.specs.declared.short.Short.TheVariants as short
use Rattle.cmark_text.specs.Excerpt.{excerpt_bytes}
use Rattle.cmark_text.specs.Short.{IsShortZeroCopy, ranged_short, shown_plain}
use Rattle.cmark_slot_events.specs.declared.leaf_events.Opened.{Opened}
use Rattle.cmark_slots.specs.declared.slot.Element.{Element}
use Rattle.cmark_slots.specs.declared.slot.Slot.{Slot}
use Rattle.cmark_slots.specs.declared.slot.SlotKind.{SlotKind}
use Rattle.cmark_slots.specs.declared.slot.SlotKind.TheVariants as kind
use Rattle.cmark_slot_events.specs.declared.leaf_events.LeafEvents.{LeafEvents}
use Rattle.cmark_slots.specs.Elements.{emphasis_tag}
use Rattle.cmark_slots.specs.SlotViews.{written_code}
use Rattle.cmark_slot_events.specs.Opens.{Follows, events_left}

-- the text of a slot: its bytes, or the bytes of the source that it covers
abbrev pub IsTextOf : LeafText → Slot → SlotKind → (part : List ℕ) → Type 0
IsTextOf leaf slot kind.Text part = part ≡ slice (text_of leaf) slot.start slot.end
IsTextOf leaf slot (kind.Whole last) part = part ≡ slice (source_of leaf) (place_of leaf slot.start) (place_of leaf (slot.end - 1) + 1)
IsTextOf leaf slot _ part = ⊥

-- the text of a slot's code span
abbrev pub IsCodeOf : LeafText → Slot → SlotKind → (part : List ℕ) → Type 0
IsCodeOf leaf slot (kind.Code from) part = part ≡ code_text (as_in (is_cell_of leaf) (written_code leaf from slot.end))
IsCodeOf leaf slot _ part = ⊥

-- the short event of this slot of a leaf's text; an end belongs to the element that is open
abbrev pub StandsFor : LeafText → Slot → Short → Type 0
StandsFor leaf slot (short.Text part) = IsTextOf leaf slot slot.kind (excerpt_bytes part)
StandsFor leaf slot (short.Code part) = IsCodeOf leaf slot slot.kind part.now
StandsFor leaf slot (short.InlineHtml part) = (slot.kind ≡ kind.InlineHtml) × (part.now ≡ slice (text_of leaf) slot.start slot.end)
StandsFor leaf slot short.SoftBreak = slot.kind ≡ kind.SoftBreak
StandsFor leaf slot short.HardBreak = slot.kind ≡ kind.HardBreak
StandsFor leaf slot (short.Start tag) = (element : Element) × (slot.kind ≡ kind.Begin element) × (shown_plain tag ≡ emphasis_tag element)
StandsFor leaf slot (short.End tag) = Unit {0}
StandsFor leaf slot (short.Html part) = ⊥
StandsFor leaf slot short.Rule = ⊥

abbrev pub IfShort : Step → (Short → Type 0) → Type 0
IfShort (next.Short short start end) P = P short
IfShort next.Long P = Unit {0}
IfShort next.Over P = Unit {0}

abbrev pub IfLong : Step → Type 0 → Type 0
IfLong (next.Short short start end) P = Unit {0}
IfLong next.Long P = P
IfLong next.Over P = Unit {0}

-- this short event, with this range, is given
pub record GivesShort (source : List ℕ) (old : List Opened) (short : Short) (start end : ℕ) (new : List Opened) : Type 0 where
  pub given : Ranged
  pub is : given ≡ ranged_short short start end
  pub follows : Follows source old given new
  pub lent : IsShortZeroCopy source short given.start given.end

-- this short event is given, or nothing
abbrev pub PassesShort : (source : List ℕ) → (old : List Opened) → Step → (new : List Opened) → Type 0
PassesShort source old (next.Short short start end) new = GivesShort source old short start end new
PassesShort source old next.Long new = new ≡ old
PassesShort source old next.Over new = new ≡ old

-- an event of another kind was not given; after the last event no element is open
abbrev pub GivesNext : (source : List ℕ) → (old : List Opened) → Step → (new : List Opened) → Type 0
GivesNext source old (next.Short short start end) new = GivesShort source old short start end new
GivesNext source old next.Long new = new ≡ old
GivesNext source old next.Over new = (old ≡ []) × (new ≡ [])

-- after an event was given fewer events are left
abbrev pub LeavesFewer : LeafEvents → Step → LeafEvents → Type 0
LeavesFewer old (next.Short short start end) new = events_left new < events_left old
LeavesFewer old next.Long new = Unit {0}
LeavesFewer old next.Over new = Unit {0}

-- ## The short event among the events that are still to come

-- this short event, with this range, is the first of the events, and `following` are the others
pub record IsShortFirst (source : List ℕ) (old : List Opened) (short : Short) (start end : ℕ) (new : List Opened) (events following : List Ranged) : Type 0 where
  pub given : Ranged
  pub is : given ≡ ranged_short short start end
  pub follows : Follows source old given new
  pub lent : IsShortZeroCopy source short given.start given.end
  pub first : events ≡ given ∷ following

-- the list is not empty
abbrev pub AreSome : List Ranged → Type 0
AreSome events = (first : Ranged) × (others : List Ranged) × (events ≡ first ∷ others)

-- this short event is the first; or the first event is of another kind, and was not given; or there are no events
abbrev pub IsNextFirst : (source : List ℕ) → (old : List Opened) → Step → (new : List Opened) → (events following : List Ranged) → Type 0
IsNextFirst source old (next.Short short start end) new events following = IsShortFirst source old short start end new events following
IsNextFirst source old next.Long new events following = AreSome events × (following ≡ events)
IsNextFirst source old next.Over new events following = (events ≡ []) × (following ≡ [])

-- this short event is the first of the events from a slot on; or the first event is of another kind; or the slot has no event
abbrev pub PassesFirst : (source : List ℕ) → (old : List Opened) → Step → (new : List Opened) → (events following : List Ranged) → Type 0
PassesFirst source old (next.Short short start end) new events following = IsShortFirst source old short start end new events following
PassesFirst source old next.Long new events following = AreSome events
PassesFirst source old next.Over new events following = events ≡ following

-- a slot of this kind has an event of its own, which is not the start and not the end of an element
abbrev pub IsAlone : SlotKind → Type 0
IsAlone (kind.Begin mark) = ⊥
IsAlone (kind.BeginLink element index) = ⊥
IsAlone kind.End = ⊥
IsAlone kind.Nothing = ⊥
IsAlone _ = Unit {0}
