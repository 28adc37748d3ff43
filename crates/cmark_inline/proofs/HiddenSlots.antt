-- The slots after an opening bracket that become nothing, and the slots that replace them.
use Rattle.std.proofs.Common.{◌≡◌, ◌≤◌, ℕ, suc, ◌+◌, ◌-◌, ◌<◌, Bool, true, false, List, [], ◌∷◌, ◌++◌, length, drop, take, get_or, set, refl, sym, ap, subst, ◌∙◌, arith, append_assoc, append-nil, length-append}
use Rattle.std.specs.Prelude.{if◌then◌else◌, map, nat_lt}
use Rattle.std.proofs.Math.Seq.{drop-cons, set-append_seam}
use Rattle.std.proofs.lemmas.Bool.{ltb-true, ltb-false}
use Rattle.std.proofs.lemmas.List.{length-take-le, map-append, take-append-drop, take-map}
use Rattle.cmark_grammar.specs.Items as items
use Rattle.cmark_leaf_text.specs.Reads.{place_of}
use Rattle.cmark_leaf_text.specs.declared.leaf_text.LeafText.{LeafText}
use Rattle.cmark_values.specs.declared.text.CowStr.{CowStr}
use Rattle.cmark_values.specs.Shown.{text_bytes}
use Rattle.cmark_inline_model.specs.SlotRows as row
use Rattle.cmark_inline_model.specs.SlotRows.{seen}
use Rattle.cmark_inline.specs.Footnoted.{PutsReference, reference_as, reference_slot, reference_start, with_mark}
use Rattle.cmark_slots.specs.Slots.{put_at}
use Rattle.cmark_inline.specs.Hiding.{WritesReference, mark_before, mark_slot, shown_reference}
use Rattle.cmark_slots.specs.SlotViews.{bytes_or_none, item_slot, shown_slot, shown_slots}
use Rattle.cmark_slots.specs.Standing.{AreNamed}
use Rattle.cmark_slots.specs.Cuts.{Hides, hidden}
use Rattle.cmark_slots.specs.declared.bracket.Bracket.{Bracket}
use Rattle.cmark_slots.specs.declared.slot.Slot.{Slot}
use Rattle.cmark_inline.specs.declared.state.InlineState.{InlineState}
use Rattle.cmark_slots.proofs.Longer.{get-last, shown-longer}
use Rattle.cmark_slots.proofs.Marks.{no-slot}

-- ## Slots that are hidden

pub hides-tail : (from to : ℕ) (s x : Slot) (old new : List Slot) → Hides (suc from) (suc to) (s ∷ old) (x ∷ new) → Hides from to old new
hides-tail from to s x old new h = record {
  size = (let n = h.size in let q : length new ≡ length old = omega (arith, n) in q);
  inside = λ k d low high. h.inside (suc k) d (omega (arith, low)) (omega (arith, high));
  before = λ k d lt. h.before (suc k) d (omega (arith, lt));
  following = λ k d le. h.following (suc k) d (omega (arith, le));
}

pub hides-next : (to : ℕ) (s x : Slot) (old new : List Slot) → Hides 0 (suc to) (s ∷ old) (x ∷ new) → Hides 0 to old new
hides-next to s x old new h = record {
  size = (let n = h.size in let q : length new ≡ length old = omega (arith, n) in q);
  inside = λ k d low high. h.inside (suc k) d (omega arith) (omega (arith, high));
  before = λ k d lt. absurd (omega (arith, lt));
  following = λ k d le. h.following (suc k) d (omega (arith, le));
}

hides-all : (old new : List Slot) → Hides 0 (length old) old new → new ≡ map hidden old
hides-all [] [] h = refl
hides-all [] (x ∷ new) h = absurd (let n = h.size in omega (arith, n))
hides-all (s ∷ old) [] h = absurd (let n = h.size in omega (arith, n))
hides-all (s ∷ old) (x ∷ new) h =
    let first : x ≡ hidden s = h.inside 0 no-slot (omega arith) (omega arith) in
    ap (λ y. y ∷ new) first ∙ ap (λ l. hidden s ∷ l) (hides-all old new (hides-next (length old) s x old new h))

-- the slots after the first ones are hidden
pub hides-following : (front rest new : List Slot) → Hides (length front) (length (front ++ rest)) (front ++ rest) new → new ≡ front ++ map hidden rest
hides-following [] rest new h = hides-all rest new h
hides-following (s ∷ front) rest [] h = absurd (let n = h.size in omega (arith, n))
hides-following (s ∷ front) rest (x ∷ new) h =
    let first : x ≡ s = h.before 0 no-slot (omega arith) in
    ap (λ y. y ∷ new) first ∙ ap (λ l. s ∷ l) (hides-following front rest new (hides-tail (length front) (length (front ++ rest)) s x (front ++ rest) new h))

-- the slots before one, this slot, and the slots after it
pub cut-at-slot : (slots : List Slot) (at : ℕ) → at < length slots → take at slots ++ (get_or slots at no-slot ∷ drop (suc at) slots) ≡ slots
cut-at-slot slots at lt = ap (λ l. take at slots ++ l) (sym (drop-cons slots at no-slot lt)) ∙ take-append-drop at slots

-- ## A footnote reference instead of them

module _ (old new : List Slot) (bracket : Bracket) (reference : Slot) (puts : PutsReference bracket reference old new) (there : bracket.slot < length old) where
  abbrev front : List Slot
  front = take bracket.slot old

  abbrev here : Slot
  here = get_or old bracket.slot no-slot

  abbrev rest : List Slot
  rest = drop (suc bracket.slot) old

  abbrev mark : Slot
  mark = mark_slot bracket

  abbrev place : ℕ
  place = reference_slot bracket

  size : length front ≡ bracket.slot
  size = length-take-le bracket.slot old (omega (arith, there))

  parts : front ++ (here ∷ rest) ≡ old
  parts = cut-at-slot old bracket.slot there

  abbrev marks : Bool → List Slot
  marks z = if z then mark ∷ [] else []

  abbrev Put : Bool → Type 0
  Put z = (others : List Slot) × (new ≡ front ++ (marks z ++ (reference ∷ map hidden others)))

  put-plain : bracket.is_image ≡ false → Put false
  put-plain e =
      let at : place ≡ length front = ap (λ z. if z then bracket.slot + 1 else bracket.slot) e ∙ sym size in
      let between : puts.between ≡ front ++ (hidden here ∷ map hidden rest) =
      hides-following front (here ∷ rest) puts.between
      (subst (λ l. Hides (length front) (length l) l puts.between) (sym parts) (subst (λ n. Hides n (length old) old puts.between) at puts.hides)) in
      let marked : with_mark bracket puts.between ≡ front ++ (hidden here ∷ map hidden rest) = ap (λ z. if z then set puts.between bracket.slot mark else puts.between) e ∙ between in
      let long = length-append front (hidden here ∷ map hidden rest) in
      (rest, puts.slots_are ∙ ap (λ n. put_at n reference (with_mark bracket puts.between)) at ∙ ap (put_at (length front) reference) marked ∙ go front (hidden here) (map hidden rest) long (nat_lt (length front) (length (front ++ (hidden here ∷ map hidden rest)))) refl)
    where
      go : (xs : List Slot) (y : Slot) (ys : List Slot) → length (xs ++ (y ∷ ys)) ≡ length xs + length (y ∷ ys) → (z : Bool) → nat_lt (length xs) (length (xs ++ (y ∷ ys))) ≡ z → put_at (length xs) reference (xs ++ (y ∷ ys)) ≡ xs ++ (reference ∷ ys)
      go xs y ys long true b = ap (λ z. if z then set (xs ++ (y ∷ ys)) (length xs) reference else (xs ++ (y ∷ ys)) ++ (reference ∷ [])) b ∙ set-append_seam xs y ys reference
      go xs y ys long false b = absurd (let g = ltb-false (length xs) (length (xs ++ (y ∷ ys))) b in omega (arith, g, long))

  -- after the slot of a `!`, the reference replaces the next slot, or is appended if there is none
  put-next : (xs : List Slot) (ys : List Slot) → (others : List Slot) × (put_at (length xs) reference (xs ++ map hidden ys) ≡ xs ++ (reference ∷ map hidden others))
  put-next xs [] =
      ([], ap (λ l. put_at (length xs) reference l) (append-nil xs) ∙ go (nat_lt (length xs) (length xs)) refl)
    where
      go : (z : Bool) → nat_lt (length xs) (length xs) ≡ z → put_at (length xs) reference xs ≡ xs ++ (reference ∷ [])
      go true b = absurd (let g = ltb-true (length xs) (length xs) b in omega (arith, g))
      go false b = ap (λ z. if z then set xs (length xs) reference else xs ++ (reference ∷ [])) b
  put-next xs (y ∷ ys) = (ys, go (nat_lt (length xs) (length (xs ++ (hidden y ∷ map hidden ys)))) refl)
    where
      go : (z : Bool) → nat_lt (length xs) (length (xs ++ (hidden y ∷ map hidden ys))) ≡ z → put_at (length xs) reference (xs ++ (hidden y ∷ map hidden ys)) ≡ xs ++ (reference ∷ map hidden ys)
      go true b = ap (λ z. if z then set (xs ++ (hidden y ∷ map hidden ys)) (length xs) reference else (xs ++ (hidden y ∷ map hidden ys)) ++ (reference ∷ [])) b ∙ set-append_seam xs (hidden y) (map hidden ys) reference
      go false b = absurd (let g = ltb-false (length xs) (length (xs ++ (hidden y ∷ map hidden ys))) b in let n = length-append xs (hidden y ∷ map hidden ys) in omega (arith, g, n))

  put-image : bracket.is_image ≡ true → Put true
  put-image e =
      let one : List Slot = here ∷ [] in
      let long = length-append front one in
      let at : place ≡ length (front ++ one) = ap (λ z. if z then bracket.slot + 1 else bracket.slot) e ∙ (let s = size in let q : bracket.slot + 1 ≡ length (front ++ one) = omega (arith, long, s) in q) in
      let all : (front ++ one) ++ rest ≡ old = append_assoc front one rest ∙ parts in
      let between : puts.between ≡ (front ++ one) ++ map hidden rest =
      hides-following (front ++ one) rest puts.between
      (subst (λ l. Hides (length (front ++ one)) (length l) l puts.between) (sym all) (subst (λ n. Hides n (length old) old puts.between) at puts.hides)) in
      let marked : with_mark bracket puts.between ≡ (front ++ (mark ∷ [])) ++ map hidden rest =
      ap (λ z. if z then set puts.between bracket.slot mark else puts.between) e ∙ ap (λ l. set l bracket.slot mark) (between ∙ append_assoc front one (map hidden rest)) ∙ ap (λ n. set (front ++ (here ∷ map hidden rest)) n mark) (sym size)
      ∙ set-append_seam front here (map hidden rest) mark ∙ sym (append_assoc front (mark ∷ []) (map hidden rest)) in
      let same = length-append front (mark ∷ []) in
      let to : place ≡ length (front ++ (mark ∷ [])) = at ∙ (let q : length (front ++ one) ≡ length (front ++ (mark ∷ [])) = omega (arith, long, same) in q) in
      let next = put-next (front ++ (mark ∷ [])) rest in
      (next.0, puts.slots_are ∙ ap (λ n. put_at n reference (with_mark bracket puts.between)) to ∙ ap (put_at (length (front ++ (mark ∷ []))) reference) marked ∙ next.1 ∙ append_assoc front (mark ∷ []) (reference ∷ map hidden next.0))

  put : Put bracket.is_image
  put = go bracket.is_image refl
    where
      go : (z : Bool) → bracket.is_image ≡ z → Put z
      go true e = put-image e
      go false e = put-plain e

-- the tables of texts and links afterwards, and the slots as slots of the model
pub writes-reference : (bracket : Bracket) (name : CowStr) (end : ℕ) (old new : InlineState) → bracket.slot < length old.slots.items → AreNamed (length old.texts.items) (length old.links.items) old.slots.items
    → PutsReference bracket (reference_as bracket (length old.texts.items) end) old.slots.items new.slots.items → new.texts.items ≡ old.texts.items ++ (name ∷ []) → new.links.items ≡ old.links.items
    → new.delimiters.placed.items ≡ take bracket.runs old.delimiters.placed.items → new.quotes.placed.items ≡ take bracket.quotes old.quotes.placed.items → old.delimiters.examined ≤ new.delimiters.examined
    → WritesReference bracket (text_bytes name) end old new
writes-reference bracket name end old new there named puts texts links runs quotes examined =
    let i = put old.slots.items new.slots.items bracket (reference_as bracket (length old.texts.items) end) puts there in
    record {
      forgets = record { runs = runs; quotes = quotes; examined = examined };
      hidden = map (λ (s : Slot). row.NothingSlot) i.0;
      nothing = none i.0;
      slots = λ leaf. ap (shown_slots leaf new.texts.items new.links.items) i.1 ∙ shows leaf i.0;
    }
  where
    none : (slots : List Slot) → seen (map (λ (s : Slot). row.NothingSlot) slots) ≡ []
    none [] = refl
    none (s ∷ slots) = none slots

    all-nothing : (leaf : LeafText) (slots : List Slot) → shown_slots leaf new.texts.items new.links.items (map hidden slots) ≡ map (λ (s : Slot). row.NothingSlot) slots
    all-nothing leaf [] = refl
    all-nothing leaf (s ∷ slots) = ap (λ l. row.NothingSlot ∷ l) (all-nothing leaf slots)

    reference : Slot
    reference = reference_as bracket (length old.texts.items) end

    shown_as : LeafText → Slot → row.Slot
    shown_as leaf s = shown_slot leaf new.texts.items new.links.items s

    before : (leaf : LeafText) → shown_slots leaf new.texts.items new.links.items (take bracket.slot old.slots.items) ≡ take bracket.slot (shown_slots leaf old.texts.items old.links.items old.slots.items)
    before leaf =
        sym (take-map (shown_slot leaf new.texts.items new.links.items) bracket.slot old.slots.items)
        ∙ ap (take bracket.slot) (shown-longer leaf old.texts.items new.texts.items (name ∷ []) old.links.items new.links.items [] old.slots.items texts (links ∙ sym (append-nil old.links.items)) named)

    one : (leaf : LeafText) → shown_slot leaf new.texts.items new.links.items reference ≡ shown_reference leaf bracket (text_bytes name) end
    one leaf = ap (λ t. shown_slot leaf t new.links.items reference) texts
        ∙ ap (λ o. item_slot (items.FootnoteReference (bytes_or_none o)) (place_of leaf (reference_start bracket)) (place_of leaf (end - 1) + 1)) (get-last old.texts.items name)

    following : (leaf : LeafText) (others : List Slot) → shown_slots leaf new.texts.items new.links.items (reference ∷ map hidden others) ≡ shown_reference leaf bracket (text_bytes name) end ∷ map (λ (s : Slot). row.NothingSlot) others
    following leaf others = ap (λ x. x ∷ shown_slots leaf new.texts.items new.links.items (map hidden others)) (one leaf) ∙ ap (λ l. shown_reference leaf bracket (text_bytes name) end ∷ l) (all-nothing leaf others)

    marked : (leaf : LeafText) (others : List Slot) (z : Bool) → shown_slots leaf new.texts.items new.links.items ((if z then mark_slot bracket ∷ [] else []) ++ (reference ∷ map hidden others))
        ≡ (if z then shown_slot leaf [] [] (mark_slot bracket) ∷ [] else []) ++ (shown_reference leaf bracket (text_bytes name) end ∷ map (λ (s : Slot). row.NothingSlot) others)
    marked leaf others true = ap (λ l. shown_slot leaf [] [] (mark_slot bracket) ∷ l) (following leaf others)
    marked leaf others false = following leaf others

    shows : (leaf : LeafText) (others : List Slot) → shown_slots leaf new.texts.items new.links.items (take bracket.slot old.slots.items ++ ((if bracket.is_image then mark_slot bracket ∷ [] else []) ++ (reference ∷ map hidden others)))
        ≡ take bracket.slot (shown_slots leaf old.texts.items old.links.items old.slots.items) ++ (mark_before leaf bracket ++ (shown_reference leaf bracket (text_bytes name) end ∷ map (λ (s : Slot). row.NothingSlot) others))
    shows leaf others =
        map-append (shown_slot leaf new.texts.items new.links.items) (take bracket.slot old.slots.items) ((if bracket.is_image then mark_slot bracket ∷ [] else []) ++ (reference ∷ map hidden others))
        ∙ ap (λ l. l ++ shown_slots leaf new.texts.items new.links.items ((if bracket.is_image then mark_slot bracket ∷ [] else []) ++ (reference ∷ map hidden others))) (before leaf)
        ∙ ap (λ l. take bracket.slot (shown_slots leaf old.texts.items old.links.items old.slots.items) ++ l) (marked leaf others bracket.is_image)
