-- The events of a leaf that are not short: they may own a text.
use Rattle.std.specs.Prelude.{◌≡◌, ◌<◌, Bool, true, false, length, get_or}
use Rattle.cmark_slot_events.specs.declared.leaf_events.LeafEvents.{LeafEvents}
use Rattle.cmark_slots.specs.declared.slot.Slot.{Slot}
use Rattle.cmark_slots.specs.declared.slot.SlotKind.{SlotKind}
use Rattle.cmark_slots.specs.declared.slot.SlotKind.TheVariants as kind

-- a slot of this kind has an event that may own a text
abbrev pub is_long : SlotKind → Bool
is_long (kind.Begin mark) = false
is_long kind.End = false
is_long kind.Nothing = false
is_long kind.SoftBreak = false
is_long kind.HardBreak = false
is_long (kind.Whole last) = false
is_long _ = true

-- there is a next slot, and its event may own a text
pub record IsLong (events : LeafEvents) : Type 0 where
  pub within : events.walk.next < length events.slots.items
  pub long : (d : Slot) → is_long (get_or events.slots.items events.walk.next d).kind ≡ true
