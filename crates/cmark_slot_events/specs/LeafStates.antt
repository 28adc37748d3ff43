-- The state of the walk over the slots of a leaf, and what a call keeps of it.
use Rattle.std.specs.Prelude.{◌≡◌, ◌<◌, ◌≤◌, ℕ, ◌∷◌, Option, length}
use Rattle.cmark_leaf_text.specs.Reads.{IsRead, source_of, text_of}
use Rattle.cmark_leaf_text.specs.declared.leaf_text.LeafText.{LeafText}
use Rattle.cmark_slots.specs.SlotViews.{IsThere, link_named, text_named}
use Rattle.cmark_slots.specs.Slots.{AreSlots, IsSlot}
use Rattle.cmark_slots.specs.declared.slot.Slot.{Slot}
use Rattle.cmark_text.specs.Ranged.{IsRangedZeroCopy, shown_ranged}
use Rattle.cmark_text.specs.declared.ranged.Ranged.{Ranged}
use Rattle.cmark_text.specs.declared.short.Step.{Step}
use Rattle.cmark_slot_events.specs.Events.{KeepsOthers, events_to_come}
use Rattle.cmark_slot_events.specs.Opens.{AreOpened, Follows, events_left}
use Rattle.cmark_slot_events.specs.Shorts.{LeavesFewer}
use Rattle.cmark_slot_events.specs.declared.leaf_events.LeafEvents.{LeafEvents}

-- the leaf was read, and this is a slot of its text
pub record IsSlotIn (leaf : LeafText) (slot : Slot) : Type 0 where
  pub read : IsRead leaf
  pub is : IsSlot (text_of leaf) (length (text_of leaf)) slot

-- the leaf was read, the slots are those of its text, and the open elements have their ranges in the source
pub record IsOver (leaf : LeafText) (events : LeafEvents) : Type 0 where
  pub read : IsRead leaf
  pub slots : AreSlots (text_of leaf) (length (text_of leaf)) events.slots.items
  pub opened : AreOpened (source_of leaf) events.walk.opened.items

-- the text and the link that the slot names are there
pub record HasNamed (slot : Slot) (events : LeafEvents) : Type 0 where
  pub text : IsThere (length events.texts.items) (text_named slot.kind)
  pub link : IsThere (length events.links.items) (link_named slot.kind)

-- the slots and the place among them are the same
pub record KeepsPlace (old new : LeafEvents) : Type 0 where
  pub slots : new.slots ≡ old.slots
  pub place : new.walk.next ≡ old.walk.next

-- and so are the texts and links. Only the open elements may differ
pub record KeepsSlots (old new : LeafEvents) : Type 0 where
  pub slots : new.slots ≡ old.slots
  pub texts : new.texts ≡ old.texts
  pub links : new.links ≡ old.links
  pub place : new.walk.next ≡ old.walk.next

-- the link with this index, if any, may have been taken. The slots, the other links and the place are the same
pub record TakesLink (taken : Option ℕ) (old new : LeafEvents) : Type 0 where
  pub slots : new.slots ≡ old.slots
  pub place : new.walk.next ≡ old.walk.next
  pub texts : new.texts ≡ old.texts
  pub links : KeepsOthers taken old.links.items new.links.items

-- a call returned the first of the events that were left
pub record GivesLong (leaf : LeafText) (old : LeafEvents) (given : Ranged) (new : LeafEvents) : Type 0 where
  pub follows : Follows (source_of leaf) old.walk.opened.items (shown_ranged given) new.walk.opened.items
  pub lent : IsRangedZeroCopy (source_of leaf) given
  pub events : events_to_come leaf old ≡ shown_ranged given ∷ events_to_come leaf new

-- no more events are left than before, and fewer after an event. There are fewer slots than a `usize` can count
pub record CountsDown (old : LeafEvents) (next : Step) (new : LeafEvents) : Type 0 where
  pub fewer : LeavesFewer old next new
  pub most : events_left new ≤ events_left old
  pub few : length new.slots.items < 18446744073709551616
