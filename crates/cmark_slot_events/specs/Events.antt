-- The events that are read from the slots of a leaf.
use Rattle.std.specs.Prelude.{◌≡◌, ◌≢◌, ℕ, ◌-◌, List, length, map, reverse, drop, slice_get, encode_utf8, Option, Some}
use Rattle.cmark_grammar.specs.CodeSpans.{code_text}
use Rattle.cmark_grammar.specs.Event as event
use Rattle.cmark_grammar.specs.Event.{Ranged}
use Rattle.cmark_grammar.specs.InlineTokens.{as_in}
use Rattle.cmark_grammar.specs.Tokens.{slice}
use Rattle.cmark_inline_model.specs.SlotRows.{slot_events}
use Rattle.cmark_leaf_text.specs.Reads.{is_cell_of, source_of}
use Rattle.cmark_leaf_text.specs.declared.leaf_text.LeafText.{LeafText}
use Rattle.cmark_text.specs.Shown.{shown_end}
use Rattle.cmark_values.specs.Lending.{IsLentBy, IsPartIfBorrowed}
use Rattle.cmark_values.specs.declared.text.CowStr.{CowStr}
use Rattle.cmark_slot_events.specs.declared.leaf_events.Opened.{Opened}
use Rattle.cmark_references.specs.declared.link.Link.{Link}
use Rattle.cmark_slots.specs.declared.slot.Slot.{Slot}
use Rattle.cmark_slots.specs.declared.slot.SlotKind.{SlotKind}
use Rattle.cmark_slots.specs.declared.slot.SlotKind.TheVariants as kind
use Rattle.cmark_slot_events.specs.declared.leaf_events.LeafEvents.{LeafEvents}
use Rattle.cmark_slots.specs.SlotViews.{CanBeGiven, shown_slots, text_at, written, written_code}

-- the ends of the elements that are open, the last first
abbrev pub shown_open : Opened → Ranged
shown_open one = record { event = event.End (shown_end one.tag); start = one.start; end = one.end }

abbrev pub shown_opened : List Opened → List Ranged
shown_opened opened = reverse (map shown_open opened)

-- the events of some slots, and after the last the ends of the elements that are still open
abbrev pub events_of : LeafText → List CowStr → List Link → List Slot → List Opened → List Ranged
events_of leaf texts links slots opened = slot_events (source_of leaf) (shown_slots leaf texts links slots) (shown_opened opened)

-- the events that are still to come
abbrev pub events_to_come : LeafText → LeafEvents → List Ranged
events_to_come leaf events = events_of leaf events.texts.items events.links.items (drop events.walk.next events.slots.items) events.walk.opened.items

-- the texts and links of the slots that were not given yet can be given
abbrev pub AreLeft : LeafText → LeafEvents → Type 0
AreLeft leaf events = CanBeGiven leaf events.texts.items events.links.items (drop events.walk.next events.slots.items)

-- a table is unchanged, except for the element at an index, if any
pub record KeepsOthers {X : Type 0} (taken : Option ℕ) (old new : List X) : Type 0 where
  pub size : length new ≡ length old
  pub others : (i : ℕ) → taken ≢ Some i → slice_get new i ≡ slice_get old i

-- ## The event of a slot with a text, whose range is the range of its bytes

-- the bytes of the event's text
abbrev pub held_in : LeafText → List CowStr → Slot → SlotKind → List ℕ
held_in leaf texts slot (kind.OwnedText index) = text_at texts index
held_in leaf texts slot (kind.Character character) = encode_utf8 character
held_in leaf texts slot (kind.FootnoteReference index) = text_at texts index
held_in leaf texts slot (kind.Code from) = code_text (as_in (is_cell_of leaf) (written_code leaf from slot.end))
held_in leaf texts slot (kind.InlineMath from) = as_in (is_cell_of leaf) (written leaf from (slot.end - 1))
held_in leaf texts slot (kind.DisplayMath from) = as_in (is_cell_of leaf) (written leaf from (slot.end - 2))
held_in leaf texts slot (kind.CutHtml from) = written leaf from slot.end
held_in leaf texts slot _ = written leaf slot.start slot.end

-- an event that has a text
abbrev pub event_as : SlotKind → (text : List ℕ) → event.Event
event_as (kind.FootnoteReference index) text = event.FootnoteReference text
event_as (kind.Code from) text = event.Code text
event_as (kind.InlineMath from) text = event.InlineMath text
event_as (kind.DisplayMath from) text = event.DisplayMath text
event_as kind.InlineHtml text = event.InlineHtml text
event_as (kind.CutHtml from) text = event.InlineHtml text
event_as (kind.SourceHtml end) text = event.InlineHtml text
event_as _ text = event.Text text

-- the event's text is borrowed as the zero-copy law says
abbrev pub IsHeldAs : SlotKind → (source : List ℕ) → (start end : ℕ) → CowStr → Type 0
IsHeldAs (kind.FootnoteReference index) source start end text = Unit {0}
IsHeldAs (kind.Code from) source start end text = IsPartIfBorrowed source text
IsHeldAs (kind.InlineMath from) source start end text = IsPartIfBorrowed source text
IsHeldAs (kind.DisplayMath from) source start end text = IsPartIfBorrowed source text
IsHeldAs _ source start end text = IsLentBy (slice source start end) text
