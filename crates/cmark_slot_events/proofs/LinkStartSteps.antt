-- The start of a link is the first of the events that are still to come, if the next slot begins a link.
use Rattle.std.specs.Prelude.{Option, None, Some, slice_get, is_some, IfSome}
use Rattle.std.proofs.Common.{◌≡◌, ◌<◌, ◌-◌, ℕ, zero, suc, ◌+◌, List, [], ◌∷◌, ◌++◌, drop, get_or, length, true, refl, sym, ap, subst, ◌∙◌, arith}
use Rattle.std.proofs.Math.Seq.{drop-cons}
use Rattle.cmark_grammar.specs.Event as event
use Rattle.cmark_grammar.specs.Event.{Event, Ranged}
use Rattle.cmark_grammar.specs.InlineReading.{over}
use Rattle.cmark_grammar.specs.Tag as tag
use Rattle.cmark_grammar.specs.TagEnd as end
use Rattle.cmark_inline_model.specs.FirstEvents.{BeginWithoutEnd}
use Rattle.cmark_inline_model.specs.SlotRows.{slot_events}
use Rattle.cmark_references.specs.Links.{shown_link}
use Rattle.cmark_references.specs.declared.link.Link.{Link}
use Rattle.cmark_leaf_text.specs.declared.leaf_text.LeafText.{LeafText}
use Rattle.cmark_leaf_text.specs.Reads.{IsRead, IsPart, place_of, source_of, text_of}
use Rattle.cmark_text.specs.declared.event.TagEnd.TheVariants as tag_end
use Rattle.cmark_values.specs.declared.text.CowStr.{CowStr}
use Rattle.cmark_slot_events.specs.LinkStarts.{IsStartFirst, link_as, link_begun, link_begun_if}
use Rattle.cmark_slot_events.specs.Events.{events_of, shown_opened}
use Rattle.cmark_slots.specs.SlotViews.{first_of, linked_or_none, shown_slots, slot_as, slot_end}
use Rattle.cmark_slots.specs.Slots.{AreSlots}
use Rattle.cmark_slot_events.specs.declared.leaf_events.Opened.{Opened}
use Rattle.cmark_slots.specs.declared.slot.LinkElement.{LinkElement}
use Rattle.cmark_slots.specs.declared.slot.LinkElement.TheVariants as element
use Rattle.cmark_slots.specs.declared.slot.Slot.{Slot}
use Rattle.cmark_slots.specs.declared.slot.SlotKind.{SlotKind}
use Rattle.cmark_slots.specs.declared.slot.SlotKind.TheVariants as kind
use Rattle.cmark_slots.proofs.Lending.{there}
use Rattle.cmark_slot_events.proofs.NoEnds.{here-no-end}
use Rattle.cmark_slot_events.proofs.ShortSteps.{part-range}
use Rattle.cmark_slot_events.proofs.EventSteps.{opened-more}

-- ## The slot at a place

-- if a slot begins a link, the link exists
pub ahead-lies : (links : List Link) (slots : List Slot) (at : ℕ) → is_some (link_begun_if links (slice_get slots at)) ≡ true → at < length slots
ahead-lies links [] at h = cc
ahead-lies links (slot ∷ slots) zero h = omega arith
ahead-lies links (slot ∷ slots) (suc at) h = let q = ahead-lies links slots at h in omega (arith, q)

-- it is the one at that place
pub slot-there : (slots : List Slot) (at : ℕ) (d : Slot) → at < length slots → slice_get slots at ≡ Some (get_or slots at d)
slot-there [] at d lt = absurd (omega (arith, lt))
slot-there (slot ∷ slots) zero d lt = refl
slot-there (slot ∷ slots) (suc at) d lt = slot-there slots at d (omega (arith, lt))

-- the bytes of a slot are a part of the text
pub slot-part : (leaf : LeafText) (slots : List Slot) (at : ℕ) (slot : Slot) → at < length slots → slot ≡ get_or slots at slot → AreSlots (text_of leaf) (length (text_of leaf)) slots → IsPart (text_of leaf) slot.start slot.end
slot-part leaf slots at slot lt is h = subst (λ (x : Slot). IsPart (text_of leaf) x.start x.end) (sym is) (h at slot lt).part

-- ## Its events

module _ (leaf : LeafText) (texts : List CowStr) (links : List Link) (slot : Slot) (slots : List Slot) (opened : List Opened) where
  abbrev here : Event → Ranged
  here e = over (source_of leaf) (first_of leaf slot) (slot_end leaf slot) e

  abbrev following : List Ranged → List Ranged
  following ends = slot_events (source_of leaf) (shown_slots leaf texts links slots) ends

  abbrev from : SlotKind → List Ranged → List Ranged
  from k ends = slot_events (source_of leaf) (slot_as leaf texts links slot k ∷ shown_slots leaf texts links slots) ends

  -- the events after a link of the table has started
  abbrev started : Option Link → List Ranged → List Ranged
  started found ends = here (event.Start (tag.Link (linked_or_none found))) ∷ following (here (event.End end.Link) ∷ ends)

  element-starts : (e : LinkElement) (index : ℕ) (link : Link) (ends : List Ranged) → link_as links e index ≡ Some link → from (kind.BeginLink e index) ends ≡ started (Some link) ends
  element-starts element.Link index link ends h = ap (λ found. started found ends) h
  element-starts element.Autolink index link ends h = ap (λ found. started found ends) h
  element-starts element.Image index link ends h = cc

  kind-starts : (k : SlotKind) (link : Link) (ends : List Ranged) → link_begun links k ≡ Some link → from k ends ≡ started (Some link) ends
  kind-starts (kind.BeginLink e index) link ends h = element-starts e index link ends h
  kind-starts k link ends h = cc

  -- the elements that are open after it
  abbrev pub with_link : (start end : ℕ) → List Opened
  with_link start end = opened ++ (record { tag = tag_end.Link; start = start; end = end } ∷ [])

  link-first : (link : Link) → IsRead leaf → IsPart (text_of leaf) slot.start slot.end → link_begun links slot.kind ≡ Some link
      → IsStartFirst (source_of leaf) opened (shown_link link) (with_link (first_of leaf slot) (slot_end leaf slot)) (events_of leaf texts links (slot ∷ slots) opened)
      (events_of leaf texts links slots (with_link (first_of leaf slot) (slot_end leaf slot)))
  link-first link read part h =
      let one : Opened = record { tag = tag_end.Link; start = first_of leaf slot; end = slot_end leaf slot } in
      record {
        given = here (event.Start (tag.Link (shown_link link)));
        is = refl;
        follows = record {
          range = part-range (source_of leaf) (first_of leaf slot) (slot_end leaf slot) (there leaf slot.start slot.end read part);
          opens = (tt, (one, record { tag_is = refl; start_is = refl; end_is = refl }, refl));
        };
        first = kind-starts slot.kind link (shown_opened opened) h ∙ ap (λ (l : List Ranged). here (event.Start (tag.Link (shown_link link))) ∷ following l) (sym (opened-more opened one));
      }

  -- the same lemma, with other names for the open elements and their ranges
  pub link-first-now : (now : List Opened) (start stop : ℕ) (link : Link) → IsRead leaf → IsPart (text_of leaf) slot.start slot.end → link_begun links slot.kind ≡ Some link
      → start ≡ place_of leaf slot.start → stop ≡ place_of leaf (slot.end - 1) + 1 → now ≡ with_link start stop
      → IsStartFirst (source_of leaf) opened (shown_link link) now (events_of leaf texts links (slot ∷ slots) opened) (events_of leaf texts links slots now)
  link-first-now now start stop link read part h a b last =
      let same : with_link (first_of leaf slot) (slot_end leaf slot) ≡ now = ap (λ x. with_link x (slot_end leaf slot)) (sym a) ∙ ap (with_link start) (sym b) ∙ sym last in
      subst (λ l. IsStartFirst (source_of leaf) opened (shown_link link) l (events_of leaf texts links (slot ∷ slots) opened) (events_of leaf texts links slots l)) same (link-first link read part h)

  -- and it is no end
  kind-no-end : (k : SlotKind) (ends : List Ranged) → is_some (link_begun links k) ≡ true → BeginWithoutEnd (from k ends)
  kind-no-end (kind.BeginLink e index) ends h = λ n. n
  kind-no-end k ends h = cc

  pub link-no-end : is_some (link_begun links slot.kind) ≡ true → BeginWithoutEnd (events_of leaf texts links (slot ∷ slots) opened)
  link-no-end h = kind-no-end slot.kind (shown_opened opened) h

-- ## The slots from that place on

module _ (leaf : LeafText) (texts : List CowStr) (links : List Link) (slots : List Slot) (opened : List Opened) (at : ℕ) (slot : Slot) (is : slot ≡ get_or slots at slot) (ahead : is_some (link_begun_if links (slice_get slots at)) ≡ true) where
  here-found : slice_get slots at ≡ Some slot
  here-found = slot-there slots at slot (ahead-lies links slots at ahead) ∙ ap Some (sym is)

  pub starts-no-end : BeginWithoutEnd (events_of leaf texts links (drop at slots) opened)
  starts-no-end = here-no-end leaf texts links slots opened at slot (ahead-lies links slots at ahead) is (λ following. link-no-end leaf texts links slot following opened (sym (ap (λ found. is_some (link_begun_if links found)) here-found) ∙ ahead))

  -- the link's start is the first
  pub starts-first : (now : List Opened) (start stop : ℕ) → IsRead leaf → IsPart (text_of leaf) slot.start slot.end → start ≡ place_of leaf slot.start → stop ≡ place_of leaf (slot.end - 1) + 1
      → now ≡ opened ++ (record { tag = tag_end.Link; start = start; end = stop } ∷ [])
      → IfSome (link_begun_if links (slice_get slots at)) (λ link. IsStartFirst (source_of leaf) opened (shown_link link) now (events_of leaf texts links (drop at slots) opened) (events_of leaf texts links (drop (at + 1) slots) now))
  starts-first now start stop read part a b last = go (link_begun links slot.kind) refl
    where
      split : drop at slots ≡ slot ∷ drop (at + 1) slots
      split = drop-cons slots at slot (ahead-lies links slots at ahead) ∙ ap (λ x. x ∷ drop (suc at) slots) (sym is) ∙ ap (λ n. slot ∷ drop n slots) (let q : suc at ≡ at + 1 = omega arith in q)

      Is : Link → Type 0
      Is link = IsStartFirst (source_of leaf) opened (shown_link link) now (events_of leaf texts links (drop at slots) opened) (events_of leaf texts links (drop (at + 1) slots) now)

      same : link_begun_if links (slice_get slots at) ≡ link_begun links slot.kind
      same = ap (link_begun_if links) here-found

      go : (found : Option Link) → link_begun links slot.kind ≡ found → IfSome (link_begun_if links (slice_get slots at)) Is
      go None e = subst (λ f. IfSome f Is) (sym (same ∙ e)) tt
      go (Some link) e = subst (λ f. IfSome f Is) (sym (same ∙ e))
          (subst (λ (l : List Slot). IsStartFirst (source_of leaf) opened (shown_link link) now (events_of leaf texts links l opened) (events_of leaf texts links (drop (at + 1) slots) now)) (sym split)
          (link-first-now leaf texts links slot (drop (at + 1) slots) opened now start stop link read part e a b last))
