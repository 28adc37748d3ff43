-- Slots whose event is not a short one.
use Rattle.std.proofs.Common.{◌≡◌, ◌<◌, List, get_or, length, true, sym, ap, subst, ◌∙◌, arith}
use Rattle.cmark_slots.specs.declared.slot.Slot.{Slot}
use Rattle.cmark_slot_events.specs.declared.leaf_events.LeafEvents.{LeafEvents}
use Rattle.cmark_slot_events.specs.Longs.{IsLong, is_long}
use Rattle.cmark_slot_events.specs.Shorts.{IfLong}
use Rattle.cmark_text.specs.declared.short.Step.{Step}
use Rattle.cmark_text.specs.declared.short.Step.TheVariants as next
use Rattle.cmark_slot_events.proofs.ShortSteps.{get_or-any}

-- the next slot has such an event, after a call that left the slots and the index as they were
pub long-here : (old new : LeafEvents) (slot : Slot) → old.walk.next < length old.slots.items → slot ≡ get_or old.slots.items old.walk.next slot → new.slots ≡ old.slots → new.walk.next ≡ old.walk.next → is_long slot.kind ≡ true → IsLong new
long-here old new slot lt is slots place long =
    let items = ap (λ v. v.items) slots in
    record {
      within = let size = ap length items in omega (arith, lt, size, place);
      long = λ d. subst (λ (x : Slot). is_long x.kind ≡ true) (is ∙ get_or-any old.slots.items old.walk.next slot d lt ∙ ap (λ (l : List Slot). get_or l old.walk.next d) (sym items) ∙ ap (λ n. get_or new.slots.items n d) (sym place)) long;
    }

pub not-long : (n : Step) (P : Type 0) → IfLong n ⊥ → IfLong n P
not-long (next.Short short start end) P h = tt
not-long next.Long P h = absurd h
not-long next.Over P h = tt
