-- Slots whose first event there is, and is not the end of an element.
use Rattle.std.proofs.Common.{◌≡◌, ℕ, suc, ◌<◌, drop, List, ◌∷◌, get_or, length, true, refl, sym, ap, subst, ◌∙◌, Result, Ok, Err, OnErr}
use Rattle.std.proofs.Math.Seq.{drop-cons}
use Rattle.cmark_grammar.specs.Event.{Ranged}
use Rattle.cmark_inline_model.specs.FirstEvents.{BeginWithoutEnd}
use Rattle.cmark_inline_model.specs.SlotRows as row
use Rattle.cmark_inline_model.specs.SlotRows.{slot_events}
use Rattle.cmark_leaf_text.specs.Reads.{source_of}
use Rattle.cmark_leaf_text.specs.declared.leaf_text.LeafText.{LeafText}
use Rattle.cmark_values.specs.declared.text.CowStr.{CowStr}
use Rattle.cmark_slot_events.specs.Longs.{IsLong, is_long}
use Rattle.cmark_slot_events.specs.Shorts.{IsAlone}
use Rattle.cmark_slots.specs.SlotViews.{slot_as, shown_slots}
use Rattle.cmark_slot_events.specs.Events.{shown_opened, events_of, events_to_come}
use Rattle.cmark_slot_events.specs.declared.leaf_events.LeafEvents.{LeafEvents}
use Rattle.cmark_slot_events.specs.declared.leaf_events.Opened.{Opened}
use Rattle.cmark_references.specs.declared.link.Link.{Link}
use Rattle.cmark_slots.specs.declared.slot.Slot.{Slot}
use Rattle.cmark_slots.specs.declared.slot.SlotKind.{SlotKind}
use Rattle.cmark_slots.specs.declared.slot.SlotKind.TheVariants as kind
use Rattle.cmark_slot_events.proofs.ShortSteps.{get_or-any}

module _ (leaf : LeafText) (texts : List CowStr) (links : List Link) (slot : Slot) where
  alone_no_end : (k : SlotKind) → IsAlone k → (rows : List row.Slot) (ends : List Ranged) → BeginWithoutEnd (slot_events (source_of leaf) (slot_as leaf texts links slot k ∷ rows) ends)
  alone_no_end (kind.Begin mark) a rows ends = absurd a
  alone_no_end (kind.BeginLink element index) a rows ends = absurd a
  alone_no_end kind.End a rows ends = absurd a
  alone_no_end kind.Nothing a rows ends = absurd a
  alone_no_end _ a rows ends = λ h. h

  long_no_end : (k : SlotKind) → is_long k ≡ true → (rows : List row.Slot) (ends : List Ranged) → BeginWithoutEnd (slot_events (source_of leaf) (slot_as leaf texts links slot k ∷ rows) ends)
  long_no_end (kind.Begin mark) long rows ends = cc
  long_no_end (kind.BeginLink element index) long rows ends = λ h. h
  long_no_end kind.End long rows ends = cc
  long_no_end kind.Nothing long rows ends = cc
  long_no_end k long rows ends = alone_no_end k tt rows ends

  module _ (following : List Slot) (opened : List Opened) where
    -- a slot with an event that is not short
    pub long-no-end : is_long slot.kind ≡ true → BeginWithoutEnd (events_of leaf texts links (slot ∷ following) opened)
    long-no-end long = long_no_end slot.kind long (shown_slots leaf texts links following) (shown_opened opened)

-- the same for the slots from this one on
pub here-no-end : (leaf : LeafText) (texts : List CowStr) (links : List Link) (slots : List Slot) (opened : List Opened) (at : ℕ) (slot : Slot) → at < length slots → slot ≡ get_or slots at slot
    → ((following : List Slot) → BeginWithoutEnd (events_of leaf texts links (slot ∷ following) opened)) → BeginWithoutEnd (events_of leaf texts links (drop at slots) opened)
here-no-end leaf texts links slots opened at slot lt is h =
    subst (λ (l : List Slot). BeginWithoutEnd (events_of leaf texts links l opened)) (sym (drop-cons slots at slot lt ∙ ap (λ x. x ∷ drop (suc at) slots) (sym is))) (h (drop (suc at) slots))

-- if the next event is not a short one, the events to come do not begin with an end
pub long-begins : (leaf : LeafText) (events : LeafEvents) → IsLong events → BeginWithoutEnd (events_to_come leaf events)
long-begins leaf events h =
    let at : ℕ = events.walk.next in
    let d : Slot = record { start = 0; end = 0; kind = kind.Nothing } in
    let slot : Slot = get_or events.slots.items at d in
    here-no-end leaf events.texts.items events.links.items events.slots.items events.walk.opened.items at slot h.within (get_or-any events.slots.items at d slot h.within)
    (λ following. long-no-end leaf events.texts.items events.links.items slot following events.walk.opened.items (h.long d))

pub on-err : {A E : Type 0} (r : Result A E) (P : Type 0) → P → OnErr r P
on-err (Ok a) P p = tt
on-err (Err e) P p = p

pub at-err : {A E : Type 0} (r : Result A E) (P : Type 0) → ((a : A) → r ≡ Ok a → ⊥) → OnErr r P → P
at-err (Ok a) P n h = absurd (n a refl)
at-err (Err e) P n h = h
