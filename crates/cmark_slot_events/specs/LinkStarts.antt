-- The start of the link at the next slot, without an event.
use Rattle.std.specs.Prelude.{◌≡◌, ℕ, List, ◌∷◌, Option, None, Some, slice_get}
use Rattle.cmark_grammar.specs.Event.{Ranged, Start}
use Rattle.cmark_grammar.specs.Tag as tag
use Rattle.cmark_grammar.specs.Tag.{Linked}
use Rattle.cmark_references.specs.declared.link.Link.{Link}
use Rattle.cmark_slot_events.specs.Opens.{Follows}
use Rattle.cmark_slot_events.specs.declared.leaf_events.Opened.{Opened}
use Rattle.cmark_slots.specs.declared.slot.LinkElement.{LinkElement}
use Rattle.cmark_slots.specs.declared.slot.LinkElement.TheVariants as element
use Rattle.cmark_slots.specs.declared.slot.Slot.{Slot}
use Rattle.cmark_slots.specs.declared.slot.SlotKind.{SlotKind}
use Rattle.cmark_slots.specs.declared.slot.SlotKind.TheVariants as kind
use Rattle.cmark_slot_events.specs.declared.leaf_events.LeafEvents.{LeafEvents}

-- the link in the table of a link or an autolink; an image has no link here
abbrev pub link_as : List Link → LinkElement → (index : ℕ) → Option Link
link_as links element.Link index = slice_get links index
link_as links element.Autolink index = slice_get links index
link_as links element.Image index = None

-- the link that a slot of this kind begins, if it begins one
abbrev pub link_begun : List Link → SlotKind → Option Link
link_begun links (kind.BeginLink element index) = link_as links element index
link_begun links _ = None

abbrev pub link_begun_if : List Link → Option Slot → Option Link
link_begun_if links None = None
link_begun_if links (Some slot) = link_begun links slot.kind

-- the link that the next slot begins, if it begins one
abbrev pub link_to_come : LeafEvents → Option Link
link_to_come events = link_begun_if events.links.items (slice_get events.slots.items events.walk.next)

-- the start of this link, with some range, is the first of the events, and `following` are the others
pub record IsStartFirst (source : List ℕ) (old : List Opened) (link : Linked) (new : List Opened) (events following : List Ranged) : Type 0 where
  pub given : Ranged
  pub is : given.event ≡ Start (tag.Link link)
  pub follows : Follows source old given new
  pub first : events ≡ given ∷ following
