-- Slots that are still to be given, further on.
use Rattle.std.specs.Prelude.{Option}
use Rattle.std.proofs.Common.{◌≡◌, ℕ, ◌+◌, ◌-◌, ◌<◌, ◌≤◌, List, drop, get_or, length, sym, ap, subst, ◌∙◌, arith, drop-drop}
use Rattle.std.proofs.lemmas.List.{length-drop, get_or-drop}
use Rattle.cmark_leaf_text.specs.declared.leaf_text.LeafText.{LeafText}
use Rattle.cmark_values.specs.declared.text.CowStr.{CowStr}
use Rattle.cmark_slot_events.specs.Events.{AreLeft}
use Rattle.cmark_slots.specs.SlotViews.{AreOnce, CanBeGiven, Differ, EndsAfter, IsThere, link_named, text_named}
use Rattle.cmark_references.specs.declared.link.Link.{Link}
use Rattle.cmark_slots.specs.declared.slot.Slot.{Slot}
use Rattle.cmark_slots.specs.declared.slot.SlotKind.{SlotKind}
use Rattle.cmark_slot_events.specs.declared.leaf_events.LeafEvents.{LeafEvents}
use Rattle.cmark_slots.proofs.Placing.{all-drop}

once-later : (named : SlotKind → Option ℕ) (n : ℕ) (slots : List Slot) → AreOnce named slots → AreOnce named (drop n slots)
once-later named n slots h = λ i j d less lt.
    let a = length-drop n slots in
    subst (λ (x : Slot). Differ (named x.kind) (named (get_or (drop n slots) j d).kind)) (sym (get_or-drop n slots i d))
    (subst (λ (y : Slot). Differ (named (get_or slots (n + i) d).kind) (named y.kind)) (sym (get_or-drop n slots j d)) (h (n + i) (n + j) d (let q : n + i < n + j = omega (arith, less) in q) (let q : n + j < length slots = omega (arith, lt, a) in q)))

given-later : (leaf : LeafText) (texts : List CowStr) (links : List Link) (n : ℕ) (slots : List Slot) → CanBeGiven leaf texts links slots → CanBeGiven leaf texts links (drop n slots)
given-later leaf texts links n slots h = record {
  texts_there = all-drop (λ (slot : Slot). IsThere (length texts) (text_named slot.kind)) n slots h.texts_there;
  links_there = all-drop (λ (slot : Slot). IsThere (length links) (link_named slot.kind)) n slots h.links_there;
  texts_once = once-later text_named n slots h.texts_once;
  links_once = once-later link_named n slots h.links_once;
  ends = all-drop (λ (slot : Slot). EndsAfter leaf slot slot.kind) n slots h.ends;
}

-- a later index in the same slots
pub left-later : (leaf : LeafText) (old new : LeafEvents) → new.texts ≡ old.texts → new.links ≡ old.links → new.slots ≡ old.slots → old.walk.next ≤ new.walk.next → AreLeft leaf old → AreLeft leaf new
left-later leaf old new texts links slots le h =
    let a : ℕ = old.walk.next in
    let b : ℕ = new.walk.next in
    let later : CanBeGiven leaf old.texts.items old.links.items (drop b old.slots.items) =
    subst (CanBeGiven leaf old.texts.items old.links.items) (drop-drop (b - a) a old.slots.items ∙ ap (λ k. drop k old.slots.items) (let q : a + (b - a) ≡ b = omega (arith, le) in q)) (given-later leaf old.texts.items old.links.items (b - a) (drop a old.slots.items) h) in
    subst (λ x. CanBeGiven leaf x.items new.links.items (drop b new.slots.items)) (sym texts)
    (subst (λ x. CanBeGiven leaf old.texts.items x.items (drop b new.slots.items)) (sym links)
    (subst (λ x. CanBeGiven leaf old.texts.items old.links.items (drop b x.items)) (sym slots) later))
