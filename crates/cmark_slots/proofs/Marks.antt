-- Slots that are written: what stays the same, and the slots of the model.
use Rattle.std.proofs.Common.{◌≡◌, ◌≢◌, ⊎_elim, ℕ, zero, suc, ◌+◌, ◌-◌, ◌<◌, ◌≤◌, max, List, length, get_or, set, Some, None, refl, sym, ap, subst, ◌∙◌, arith}
use Rattle.std.proofs.lemmas.Bool.{cases_eq, cases_lt}
use Rattle.std.proofs.lemmas.List.{map-set, get_or-map, get_or-set_same, get_or-set_other, get_or_default, length-set, length-map, same_lists}
use Rattle.cmark_grammar.specs.Items as items
use Rattle.cmark_inline_model.specs.SlotRows as row
use Rattle.cmark_inline_model.specs.SlotRows.{spanned, start_in, end_in, used_up}
use Rattle.cmark_leaf_text.specs.Reads.{place_of}
use Rattle.cmark_leaf_text.specs.declared.leaf_text.LeafText.{LeafText}
use Rattle.cmark_values.specs.declared.text.CowStr.{CowStr}
use Rattle.cmark_slots.specs.MarkedSlots.{AreWhole, EndWithin, Merges, begun_as, ended, last_in, whole_to}
use Rattle.cmark_slots.specs.Elements.{emphasis_tag}
use Rattle.cmark_slots.specs.SlotViews.{slot_as, shown_slot, shown_slots, item_slot, first_of, slot_end}
use Rattle.cmark_slots.specs.Cuts.{Hides, hidden}
use Rattle.cmark_references.specs.declared.link.Link.{Link}
use Rattle.cmark_slots.specs.declared.slot.Element.{Element}
use Rattle.cmark_slots.specs.declared.slot.Slot.{Slot}
use Rattle.cmark_slots.specs.declared.slot.SlotKind.TheVariants as kind

abbrev pub no-slot : Slot
no-slot = record { kind = kind.Text; start = 0; end = 0 }

pub not-text : kind.Nothing ≢ kind.Text
not-text e = cc

-- ## Whole texts

module _ (slots : List Slot) (at : ℕ) (s d0 : Slot) (whole : AreWhole slots) (lt : at < length slots) (text : (get_or slots at d0).kind ≡ kind.Text) (alone : (i : ℕ) → last_in s.kind i ≡ i) where
  pub whole-set : AreWhole (set slots at s)
  whole-set i k d ik kl within =
      let n = length-set slots at s in
      let there : k < length slots = omega (arith, within, n) in
      ⊎_elim (λ (e : k ≡ at). absurd (taken i k d ik kl there e)) (λ other. kept i k d ik kl there other) (cases_eq k at)
    where
      taken : (i k : ℕ) (d : Slot) → i < k → k ≤ last_in (get_or (set slots at s) i d).kind i → k < length slots → k ≡ at → ⊥
      taken i k d ik kl there e =
          let before : (get_or (set slots at s) i d) ≡ get_or slots i d = get_or-set_other slots at i s d (λ (q : i ≡ at). absurd (omega (arith, q, e, ik))) in
          let gone = whole i k d ik (subst (λ (x : Slot). k ≤ last_in x.kind i) before kl) there in
          not-text (sym gone ∙ ap (λ j. (get_or slots j d).kind) e ∙ ap (λ (x : Slot). x.kind) (sym (get_or_default slots at d0 d lt)) ∙ text)

      kept : (i k : ℕ) (d : Slot) → i < k → k ≤ last_in (get_or (set slots at s) i d).kind i → k < length slots → (k ≡ at → ⊥) → (get_or (set slots at s) k d).kind ≡ kind.Nothing
      kept i k d ik kl there other =
          ap (λ (x : Slot). x.kind) (get_or-set_other slots at k s d other)
          ∙ ⊎_elim
          (λ (e : i ≡ at).
          let here : get_or (set slots at s) i d ≡ s = ap (λ j. get_or (set slots at s) j d) e ∙ get_or-set_same slots at s d lt in
          let no : k ≤ i = subst (λ n. k ≤ n) (alone i) (subst (λ (x : Slot). k ≤ last_in x.kind i) here kl) in
          absurd (omega (arith, ik, no)))
          (λ (o : i ≡ at → ⊥). whole i k d ik (subst (λ (x : Slot). k ≤ last_in x.kind i) (get_or-set_other slots at i s d o) kl) there)
          (cases_eq i at)

pub whole-hides : (from to : ℕ) (old new : List Slot) → Hides from to old new → AreWhole old → AreWhole new
whole-hides from to old new h whole i k d ik kl within =
    let n = h.size in
    let there : k < length old = omega (arith, within, n) in
    ⊎_elim
    (λ (low : k < from). kept i k d ik kl there (h.before k d low))
    (λ (high : from ≤ k). ⊎_elim (λ (l : k < to). ap (λ (x : Slot). x.kind) (h.inside k d high l)) (λ (g : to ≤ k). kept i k d ik kl there (h.following k d g)) (cases_lt k to))
    (cases_lt k from)
  where
    reach : (i k : ℕ) (d : Slot) → i < k → k ≤ last_in (get_or new i d).kind i → k ≤ last_in (get_or old i d).kind i
    reach i k d ik kl =
        ⊎_elim
        (λ (low : i < from). subst (λ (x : Slot). k ≤ last_in x.kind i) (h.before i d low) kl)
        (λ (high : from ≤ i). ⊎_elim
        (λ (l : i < to). let no : k ≤ i = subst (λ (x : Slot). k ≤ last_in x.kind i) (h.inside i d high l) kl in absurd (omega (arith, ik, no)))
        (λ (g : to ≤ i). subst (λ (x : Slot). k ≤ last_in x.kind i) (h.following i d g) kl)
        (cases_lt i to))
        (cases_lt i from)

    kept : (i k : ℕ) (d : Slot) → i < k → k ≤ last_in (get_or new i d).kind i → k < length old → get_or new k d ≡ get_or old k d → (get_or new k d).kind ≡ kind.Nothing
    kept i k d ik kl there same = ap (λ (x : Slot). x.kind) same ∙ whole i k d ik (reach i k d ik kl) there

pub whole-merges : (first last : ℕ) (old new : List Slot) → Merges first last old new → AreWhole old → first < last → last < length old → ((d : Slot) → (get_or old first d).kind ≡ kind.Text) → AreWhole new
whole-merges first last old new m whole lt within text =
    subst AreWhole (sym (m.slots_are no-slot)) (λ i k d ik kl in_new.
    let s = whole_to last (get_or old last no-slot).end (get_or old first no-slot) in
    let n = length-set m.between first s in
    let there : k < length m.between = omega (arith, in_new, n) in
    ⊎_elim (λ (e : k ≡ first). absurd (taken i k d ik kl there e)) (λ other. kept i k d ik kl there other) (cases_eq k first))
  where
    s : Slot
    s = whole_to last (get_or old last no-slot).end (get_or old first no-slot)

    hidden-whole : AreWhole m.between
    hidden-whole = whole-hides (first + 1) (last + 1) old m.between m.hides whole

    at-first : first < length m.between
    at-first = let n = m.hides.size in omega (arith, n, lt, within)

    taken : (i k : ℕ) (d : Slot) → i < k → k ≤ last_in (get_or (set m.between first s) i d).kind i → k < length m.between → k ≡ first → ⊥
    taken i k d ik kl there e =
        let before : (get_or (set m.between first s) i d) ≡ get_or m.between i d = get_or-set_other m.between first i s d (λ (q : i ≡ first). absurd (omega (arith, q, e, ik))) in
        let gone = hidden-whole i k d ik (subst (λ (x : Slot). k ≤ last_in x.kind i) before kl) there in
        not-text (sym gone ∙ ap (λ j. (get_or m.between j d).kind) e ∙ ap (λ (x : Slot). x.kind) (m.hides.before first d (omega arith)) ∙ text d)

    kept : (i k : ℕ) (d : Slot) → i < k → k ≤ last_in (get_or (set m.between first s) i d).kind i → k < length m.between → (k ≡ first → ⊥) → (get_or (set m.between first s) k d).kind ≡ kind.Nothing
    kept i k d ik kl there other =
        ap (λ (x : Slot). x.kind) (get_or-set_other m.between first k s d other)
        ∙ ⊎_elim
        (λ (e : i ≡ first).
        let here : get_or (set m.between first s) i d ≡ s = ap (λ j. get_or (set m.between first s) j d) e ∙ get_or-set_same m.between first s d at-first in
        let most : k ≤ max last i = subst (λ (x : Slot). k ≤ last_in x.kind i) here kl in
        let low : first + 1 ≤ k = omega (arith, ik, e) in
        let high : k < last + 1 = omega (arith, most, e, lt) in
        ap (λ (x : Slot). x.kind) (m.hides.inside k d low high))
        (λ (o : i ≡ first → ⊥). hidden-whole i k d ik (subst (λ (x : Slot). k ≤ last_in x.kind i) (get_or-set_other m.between first i s d o) kl) there)
        (cases_eq i first)

-- ## What a write leaves

-- slots are the same before one index and from another on
pub record SameAround (low high : ℕ) (old new : List Slot) : Type 0 where
  pub size : length new ≡ length old
  pub before : (k : ℕ) (d : Slot) → k < low → get_or new k d ≡ get_or old k d
  pub following : (k : ℕ) (d : Slot) → high ≤ k → get_or new k d ≡ get_or old k d

pub same-set : (at : ℕ) (s : Slot) (slots : List Slot) → SameAround at (suc at) slots (set slots at s)
same-set at s slots = record {
  size = length-set slots at s;
  before = λ k d lt. get_or-set_other slots at k s d (λ (q : k ≡ at). absurd (omega (arith, q, lt)));
  following = λ k d le. get_or-set_other slots at k s d (λ (q : k ≡ at). absurd (omega (arith, q, le)));
}

pub same-sets : (first at : ℕ) (s t : Slot) (slots : List Slot) → first < at → SameAround first (suc at) slots (set (set slots at s) first t)
same-sets first at s t slots lt = record {
  size = length-set (set slots at s) first t ∙ length-set slots at s;
  before = λ k d l. get_or-set_other (set slots at s) first k t d (λ (q : k ≡ first). absurd (omega (arith, q, l))) ∙ get_or-set_other slots at k s d (λ (q : k ≡ at). absurd (omega (arith, q, l, lt)));
  following = λ k d le. get_or-set_other (set slots at s) first k t d (λ (q : k ≡ first). absurd (omega (arith, q, le, lt))) ∙ get_or-set_other slots at k s d (λ (q : k ≡ at). absurd (omega (arith, q, le)));
}

pub same-merges : (first last : ℕ) (old new : List Slot) → Merges first last old new → first < last → SameAround first (suc last) old new
same-merges first last old new m lt =
    let s = whole_to last (get_or old last no-slot).end (get_or old first no-slot) in
    subst (SameAround first (suc last) old) (sym (m.slots_are no-slot)) (record {
      size = length-set m.between first s ∙ m.hides.size;
      before = λ k d l. get_or-set_other m.between first k s d (λ (q : k ≡ first). absurd (omega (arith, q, l))) ∙ m.hides.before k d (omega (arith, l));
      following = λ k d le. get_or-set_other m.between first k s d (λ (q : k ≡ first). absurd (omega (arith, q, le, lt))) ∙ m.hides.following k d (omega (arith, le));
    })

-- ## The same lemmas for slots of the model

length-used : (count at : ℕ) (rows : List row.Slot) → length (used_up at count rows) ≡ length rows
length-used zero at rows = refl
length-used (suc count) at rows = length-used count (suc at) (set rows at row.NothingSlot) ∙ length-set rows at row.NothingSlot

used-before : (count at k : ℕ) (rows : List row.Slot) (d : row.Slot) → k < at → get_or (used_up at count rows) k d ≡ get_or rows k d
used-before zero at k rows d lt = refl
used-before (suc count) at k rows d lt =
    used-before count (suc at) k (set rows at row.NothingSlot) d (omega (arith, lt)) ∙ get_or-set_other rows at k row.NothingSlot d (λ (q : k ≡ at). absurd (omega (arith, q, lt)))

used-following : (count at k : ℕ) (rows : List row.Slot) (d : row.Slot) → at + count ≤ k → get_or (used_up at count rows) k d ≡ get_or rows k d
used-following zero at k rows d le = refl
used-following (suc count) at k rows d le =
    used-following count (suc at) k (set rows at row.NothingSlot) d (omega (arith, le)) ∙ get_or-set_other rows at k row.NothingSlot d (λ (q : k ≡ at). absurd (omega (arith, q, le)))

used-in : (count at k : ℕ) (rows : List row.Slot) (d : row.Slot) → at ≤ k → k < at + count → k < length rows → get_or (used_up at count rows) k d ≡ row.NothingSlot
used-in zero at k rows d low high within = absurd (omega (arith, low, high))
used-in (suc count) at k rows d low high within =
    ⊎_elim
    (λ (e : k ≡ at).
    used-before count (suc at) k (set rows at row.NothingSlot) d (omega (arith, e))
    ∙ ap (λ j. get_or (set rows at row.NothingSlot) j d) e
    ∙ get_or-set_same rows at row.NothingSlot d (let q : at < length rows = omega (arith, within, low) in q))
    (λ (other : k ≡ at → ⊥).
    let n = length-set rows at row.NothingSlot in
    used-in count (suc at) k (set rows at row.NothingSlot) d (let q : suc at ≤ k = omega (arith, low, other) in q) (omega (arith, high)) (omega (arith, n, within)))
    (cases_eq k at)

module _ (leaf : LeafText) (texts : List CowStr) (links : List Link) where
  abbrev view : Slot → row.Slot
  view slot = shown_slot leaf texts links slot

  abbrev views : List Slot → List row.Slot
  views slots = shown_slots leaf texts links slots

  starts : (slot : Slot) → slot.kind ≡ kind.Text → start_in (view slot) ≡ first_of leaf slot
  starts slot e = ap (λ k. start_in (slot_as leaf texts links slot k)) e

  ends : (slot : Slot) → slot.kind ≡ kind.Text → end_in (view slot) ≡ slot_end leaf slot
  ends slot e = ap (λ k. end_in (slot_as leaf texts links slot k)) e

  starts-at : (slots : List Slot) (at : ℕ) → at < length slots → ((d : Slot) → (get_or slots at d).kind ≡ kind.Text) → start_in (get_or (views slots) at row.NothingSlot) ≡ first_of leaf (get_or slots at no-slot)
  starts-at slots at lt text = ap start_in (get_or-map (shown_slot leaf texts links) slots at no-slot row.NothingSlot lt) ∙ starts (get_or slots at no-slot) (text no-slot)

  ends-at : (slots : List Slot) (at : ℕ) → at < length slots → ((d : Slot) → (get_or slots at d).kind ≡ kind.Text) → end_in (get_or (views slots) at row.NothingSlot) ≡ slot_end leaf (get_or slots at no-slot)
  ends-at slots at lt text = ap end_in (get_or-map (shown_slot leaf texts links) slots at no-slot row.NothingSlot lt) ∙ ends (get_or slots at no-slot) (text no-slot)

  -- the greater of two ends in the source
  past-greater : (one other : Slot) → one.end ≤ other.end → place_of leaf (max one.end other.end - 1) + 1 ≡ slot_end leaf other
  past-greater one other le = ap (λ n. place_of leaf (n - 1) + 1) (let q : max one.end other.end ≡ other.end = omega (arith, le) in q)

  pub some-view : (slots : List Slot) (first at : ℕ) (e : Element) → first < at → at < length slots → ((d : Slot) → (get_or slots first d).kind ≡ kind.Text) → ((d : Slot) → (get_or slots at d).kind ≡ kind.Text)
      → ((d : Slot) → (get_or slots first d).end ≤ (get_or slots at d).end)
      → views (set (set slots at (ended (get_or slots at no-slot))) first (begun_as (kind.Begin e) (get_or slots at no-slot).end (get_or slots first no-slot))) ≡ spanned (Some (emphasis_tag e)) first at (views slots)
  some-view slots first at e lt within ft lt_text order =
      let a : Slot = get_or slots at no-slot in
      let f : Slot = get_or slots first no-slot in
      map-set (shown_slot leaf texts links) (set slots at (ended a)) first (begun_as (kind.Begin e) a.end f)
      ∙ ap (λ l. set l first (view (begun_as (kind.Begin e) a.end f))) (map-set (shown_slot leaf texts links) slots at (ended a))
      ∙ ap (λ n. set (set (views slots) at row.EndSlot) first (row.BeginSlot (emphasis_tag e) (first_of leaf f) n)) (past-greater f a (order no-slot) ∙ sym (ends-at slots at within lt_text))
      ∙ ap (λ n. set (set (views slots) at row.EndSlot) first (row.BeginSlot (emphasis_tag e) n (end_in (get_or (views slots) at row.NothingSlot)))) (sym (starts-at slots first (omega (arith, lt, within)) ft))

  hides-view : (from to count : ℕ) (old new : List Slot) → Hides from to old new → to ≡ from + count → to ≤ length old → views new ≡ used_up from count (views old)
  hides-view from to count old new h is within =
      let n = length-map new (shown_slot leaf texts links) in
      let o = length-map old (shown_slot leaf texts links) in
      let m = h.size in
      let u = length-used count from (views old) in
      same_lists (views new) (used_up from count (views old)) (omega (arith, n, o, m, u)) (λ k d lt.
      let in-new : k < length new = omega (arith, lt, n) in
      let in-old : k < length old = omega (arith, in-new, m) in
      let in-rows : k < length (views old) = omega (arith, in-old, o) in
      get_or-map (shown_slot leaf texts links) new k no-slot d in-new
      ∙ ⊎_elim
      (λ (low : k < from). ap view (h.before k no-slot low) ∙ sym (get_or-map (shown_slot leaf texts links) old k no-slot d in-old) ∙ sym (used-before count from k (views old) d low))
      (λ (high : from ≤ k). ⊎_elim
      (λ (l : k < to). ap view (h.inside k no-slot high l) ∙ sym (used-in count from k (views old) d high (let q : k < from + count = omega (arith, l, is) in q) in-rows))
      (λ (g : to ≤ k). ap view (h.following k no-slot g) ∙ sym (get_or-map (shown_slot leaf texts links) old k no-slot d in-old) ∙ sym (used-following count from k (views old) d (let q : from + count ≤ k = omega (arith, g, is) in q)))
      (cases_lt k to))
      (cases_lt k from))

  pub none-view : (old new : List Slot) (first last : ℕ) → Merges first last old new → first < last → last < length old → ((d : Slot) → (get_or old first d).kind ≡ kind.Text) → ((d : Slot) → (get_or old last d).kind ≡ kind.Text)
      → ((d : Slot) → (get_or old first d).end ≤ (get_or old last d).end) → views new ≡ spanned None first last (views old)
  none-view old new first last m lt within ft lt_text order =
      let l : Slot = get_or old last no-slot in
      let f : Slot = get_or old first no-slot in
      let gone : views m.between ≡ used_up (suc first) (last - first) (views old) =
      hides-view (first + 1) (last + 1) (last - first) old m.between m.hides (omega (arith, lt)) (let q : last + 1 ≤ length old = omega (arith, within) in q)
      ∙ ap (λ n. used_up n (last - first) (views old)) (let q : first + 1 ≡ suc first = omega arith in q) in
      ap (shown_slots leaf texts links) (m.slots_are no-slot)
      ∙ map-set (shown_slot leaf texts links) m.between first (whole_to last l.end f)
      ∙ ap (λ s. set s first (view (whole_to last l.end f))) gone
      ∙ ap (λ n. set (used_up (suc first) (last - first) (views old)) first (item_slot items.Own (first_of leaf f) n)) (past-greater f l (order no-slot) ∙ sym (ends-at old last within lt_text))
      ∙ ap (λ n. set (used_up (suc first) (last - first) (views old)) first (item_slot items.Own n (end_in (get_or (views old) last row.NothingSlot)))) (sym (starts-at old first (omega (arith, lt, within)) ft))

  pub blank-view : (slots new : List Slot) (at : ℕ) (s : Slot) → new ≡ set slots at (hidden s) → set (views slots) at row.NothingSlot ≡ views new
  blank-view slots new at s e = sym (ap (shown_slots leaf texts links) e ∙ map-set (shown_slot leaf texts links) slots at (hidden s))

-- the first slot of an element, after its end
pub enclosed : (old mid new : List Slot) (first last end : ℕ) (e : Element) (d : Slot) → mid ≡ set old last (ended (get_or old last d)) → end ≡ (get_or old last d).end
    → ((d1 : Slot) → new ≡ set mid first (begun_as (kind.Begin e) end (get_or mid first d1))) → first < last
    → new ≡ set (set old last (ended (get_or old last d))) first (begun_as (kind.Begin e) (get_or old last d).end (get_or old first d))
enclosed old mid new first last end e d m n is lt =
    let a : Slot = ended (get_or old last d) in
    is d
    ∙ ap (λ (l : List Slot). set l first (begun_as (kind.Begin e) end (get_or l first d))) m
    ∙ ap (λ j. set (set old last a) first (begun_as (kind.Begin e) j (get_or (set old last a) first d))) n
    ∙ ap (λ (s : Slot). set (set old last a) first (begun_as (kind.Begin e) (get_or old last d).end s)) (get_or-set_other old last first a d (λ (q : first ≡ last). absurd (omega (arith, q, lt))))

-- ## The last slots of whole texts

pub within-set : (slots : List Slot) (at : ℕ) (s : Slot) → EndWithin slots → ((i : ℕ) → last_in s.kind i ≡ i) → EndWithin (set slots at s)
within-set slots at s h alone i d lt =
    let n = length-set slots at s in
    let there : i < length slots = omega (arith, lt, n) in
    subst (λ m. last_in (get_or (set slots at s) i d).kind i < m) (sym n)
    (⊎_elim
    (λ (e : i ≡ at).
    let here : get_or (set slots at s) i d ≡ s = ap (λ j. get_or (set slots at s) j d) e ∙ get_or-set_same slots at s d (let q : at < length slots = omega (arith, there, e) in q) in
    subst (λ (x : Slot). last_in x.kind i < length slots) (sym here) (subst (λ m. m < length slots) (sym (alone i)) there))
    (λ other. subst (λ (x : Slot). last_in x.kind i < length slots) (sym (get_or-set_other slots at i s d other)) (h i d there))
    (cases_eq i at))

within-hides : (from to : ℕ) (old new : List Slot) → Hides from to old new → EndWithin old → EndWithin new
within-hides from to old new x h i d lt =
    let n = x.size in
    let there : i < length old = omega (arith, lt, n) in
    let same : get_or new i d ≡ get_or old i d → last_in (get_or new i d).kind i < length new =
    λ e. subst (λ m. last_in (get_or new i d).kind i < m) (sym n) (subst (λ (s : Slot). last_in s.kind i < length old) (sym e) (h i d there)) in
    ⊎_elim (λ (low : i < from). same (x.before i d low))
    (λ (high : from ≤ i). ⊎_elim (λ (l : i < to). subst (λ (s : Slot). last_in s.kind i < length new) (sym (x.inside i d high l)) lt) (λ (g : to ≤ i). same (x.following i d g)) (cases_lt i to))
    (cases_lt i from)

pub within-merges : (first last : ℕ) (old new : List Slot) → Merges first last old new → first < last → last < length old → EndWithin old → EndWithin new
within-merges first last old new m le last_in_old h =
    let s = whole_to last (get_or old last no-slot).end (get_or old first no-slot) in
    let between = within-hides (first + 1) (last + 1) old m.between m.hides h in
    subst EndWithin (sym (m.slots_are no-slot)) (λ i d lt.
    let n = length-set m.between first s in
    let size = m.hides.size in
    let there : i < length m.between = omega (arith, lt, n) in
    subst (λ k. last_in (get_or (set m.between first s) i d).kind i < k) (sym n)
    (⊎_elim
    (λ (e : i ≡ first).
    let here : get_or (set m.between first s) i d ≡ s = ap (λ j. get_or (set m.between first s) j d) e ∙ get_or-set_same m.between first s d (let q : first < length m.between = omega (arith, there, e) in q) in
    subst (λ (x : Slot). last_in x.kind i < length m.between) (sym here) (let q : max last i < length m.between = omega (arith, size, last_in_old, e, le) in q))
    (λ other. subst (λ (x : Slot). last_in x.kind i < length m.between) (sym (get_or-set_other m.between first i s d other)) (between i d there))
    (cases_eq i first)))
