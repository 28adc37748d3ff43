-- The characters of quotes and the marks of runs in the slots between two others do not change these two.
use Rattle.std.proofs.Common.{◌≡◌, ℕ, zero, suc, ◌+◌, ◌-◌, ◌<◌, ◌≤◌, List, [], ◌∷◌, ◌++◌, length, drop, take, get_or, set, Option, Some, None, refl, ap, ◌∙◌, arith, append_assoc}
use Rattle.std.specs.Prelude.{All, map}
use Rattle.std.proofs.lemmas.List.{get_or_append_left, get_or-set_other, length-set, set-append_left, set_comm, set_split}
use Rattle.cmark_grammar.specs.Options.{Options}
use Rattle.cmark_grammar.specs.Spans.{span_tag}
use Rattle.cmark_grammar.specs.Tag.{Tag}
use Rattle.cmark_grammar.specs.Items.{Own}
use Rattle.cmark_grammar.specs.Siblings.{item}
use Rattle.cmark_inline_model.specs.SlotRows.{BeginSlot, EndSlot, ItemSlot, Mark, NothingSlot, Slot, Stays, Begins, Ends, Blank, character_slot, end_in, marked, quoted, spanned, start_in, used_up}
use Rattle.cmark_slots.specs.MarkedSlots.{AreAhead, HaveTexts}
use Rattle.cmark_inline.specs.FormedSlots.{wrapped}
use Rattle.cmark_slots.specs.declared.quote.PlacedQuote.{PlacedQuote}
use Rattle.cmark_slots.specs.declared.slot.Slot.{Slot as CodeSlot}
use Rattle.cmark_slots.proofs.Placing.{all-head, all-tail}

-- all these indices are after `at` and below `size`
abbrev pub AreInside : (at size : ℕ) → List ℕ → Type 0
AreInside at size [] = Unit {0}
AreInside at size (b ∷ bs) = (at < b) × (b < size) × AreInside at size bs

module _ (at : ℕ) (x y : Slot) where
  abbrev both : List Slot → List Slot
  both slots = set slots at x ++ (y ∷ [])

  get-both : (slots : List Slot) (k : ℕ) (d : Slot) → at < k → k < length slots → get_or (both slots) k d ≡ get_or slots k d
  get-both slots k d following within =
      let n = length-set slots at x in
      get_or_append_left (set slots at x) (y ∷ []) d k (let q : k < length (set slots at x) = omega (arith, n, within) in q) ∙ get_or-set_other slots at k x d (λ (e : k ≡ at). absurd (omega (arith, e, following)))

  set-both : (slots : List Slot) (k : ℕ) (z : Slot) → at < k → k < length slots → set (both slots) k z ≡ both (set slots k z)
  set-both slots k z following within =
      let n = length-set slots at x in
      set-append_left (set slots at x) (y ∷ []) k z (let q : k < length (set slots at x) = omega (arith, n, within) in q) ∙ ap (λ l. l ++ (y ∷ [])) (set_comm slots at k x z (λ (e : at ≡ k). absurd (omega (arith, e, following))))

  -- ## Quotes

  length-quoted : (quotes characters : List ℕ) (slots : List Slot) → length (quoted quotes characters slots) ≡ length slots
  length-quoted [] characters slots = refl
  length-quoted (k ∷ quotes) characters slots =
      let made = character_slot (get_or characters 0 0) (get_or slots k NothingSlot) in
      length-quoted quotes (drop 1 characters) (set slots k made) ∙ length-set slots k made

  quoted-both : (quotes characters : List ℕ) (slots : List Slot) (size : ℕ) → length slots ≡ size → AreInside at size quotes → quoted quotes characters (both slots) ≡ both (quoted quotes characters slots)
  quoted-both [] characters slots size n h = refl
  quoted-both (k ∷ quotes) characters slots size n h =
      let a = h.0 in
      let b = h.1 in
      let within : k < length slots = omega (arith, b, n) in
      let made = character_slot (get_or characters 0 0) (get_or slots k NothingSlot) in
      ap (λ s. quoted quotes (drop 1 characters) (set (both slots) k (character_slot (get_or characters 0 0) s))) (get-both slots k NothingSlot a within)
      ∙ ap (quoted quotes (drop 1 characters)) (set-both slots k made a within)
      ∙ quoted-both quotes (drop 1 characters) (set slots k made) size (length-set slots k made ∙ n) h.2

  -- ## Marks

  length-used : (count k : ℕ) (slots : List Slot) → length (used_up k count slots) ≡ length slots
  length-used zero k slots = refl
  length-used (suc count) k slots = length-used count (suc k) (set slots k NothingSlot) ∙ length-set slots k NothingSlot

  used-both : (count k : ℕ) (slots : List Slot) → at < k → k + count ≤ length slots → used_up k count (both slots) ≡ both (used_up k count slots)
  used-both zero k slots following within = refl
  used-both (suc count) k slots following within =
      let n = length-set slots k NothingSlot in
      ap (used_up (suc k) count) (set-both slots k NothingSlot following (omega (arith, within)))
      ∙ used-both count (suc k) (set slots k NothingSlot) (omega (arith, following)) (let q : suc k + count ≤ length (set slots k NothingSlot) = omega (arith, n, within) in q)

  length-spanned : (t : Option Tag) (first last : ℕ) (slots : List Slot) → length (spanned t first last slots) ≡ length slots
  length-spanned (Some t) first last slots = length-set (set slots last EndSlot) first _ ∙ length-set slots last EndSlot
  length-spanned None first last slots = length-set (used_up (suc first) (last - first) slots) first _ ∙ length-used (last - first) (suc first) slots

  spanned-both : (t : Option Tag) (first last : ℕ) (slots : List Slot) → at < first → at < last → first < length slots → last < length slots → spanned t first last (both slots) ≡ both (spanned t first last slots)
  spanned-both (Some t) first last slots a b f l =
      let n = length-set slots last EndSlot in
      ap (λ s. set (set (both slots) last EndSlot) first (BeginSlot t (start_in s) (end_in (get_or (both slots) last NothingSlot)))) (get-both slots first NothingSlot a f)
      ∙ ap (λ s. set (set (both slots) last EndSlot) first (BeginSlot t (start_in (get_or slots first NothingSlot)) (end_in s))) (get-both slots last NothingSlot b l)
      ∙ ap (λ s. set s first (BeginSlot t (start_in (get_or slots first NothingSlot)) (end_in (get_or slots last NothingSlot)))) (set-both slots last EndSlot b l)
      ∙ set-both (set slots last EndSlot) first (BeginSlot t (start_in (get_or slots first NothingSlot)) (end_in (get_or slots last NothingSlot))) a (let q : first < length (set slots last EndSlot) = omega (arith, n, f) in q)
  spanned-both None first last slots a b f l =
      let n = length-used (last - first) (suc first) slots in
      let made : Slot → Slot → Slot = λ one other. ItemSlot (item Own (start_in one) (end_in other)) in
      ap (λ s. set (used_up (suc first) (last - first) (both slots)) first (made s (get_or (both slots) last NothingSlot))) (get-both slots first NothingSlot a f)
      ∙ ap (λ s. set (used_up (suc first) (last - first) (both slots)) first (made (get_or slots first NothingSlot) s)) (get-both slots last NothingSlot b l)
      ∙ ap (λ s. set s first (made (get_or slots first NothingSlot) (get_or slots last NothingSlot))) (used-both (last - first) (suc first) slots (omega (arith, a)) (omega (arith, f, l)))
      ∙ set-both (used_up (suc first) (last - first) slots) first (made (get_or slots first NothingSlot) (get_or slots last NothingSlot)) a (let q : first < length (used_up (suc first) (last - first) slots) = omega (arith, n, f) in q)

  module _ (options : Options) where
    length-marked : (places : List ℕ) (marks : List Mark) (slots : List Slot) (begun : List ℕ) → length (marked options places marks slots begun) ≡ length slots
    length-marked [] marks slots begun = refl
    length-marked (k ∷ places) [] slots begun = refl
    length-marked (k ∷ places) (Stays ∷ marks) slots begun = length-marked places marks slots begun
    length-marked (k ∷ places) (Begins kind ∷ marks) slots begun = length-marked places marks slots (k ∷ begun)
    length-marked (k ∷ places) (Ends kind ∷ marks) slots [] = length-marked places marks slots []
    length-marked (k ∷ places) (Ends kind ∷ marks) slots (first ∷ begun) = length-marked places marks (spanned (span_tag options kind) first k slots) begun ∙ length-spanned (span_tag options kind) first k slots
    length-marked (k ∷ places) (Blank ∷ marks) slots begun = length-marked places marks (set slots k NothingSlot) begun ∙ length-set slots k NothingSlot

    marked-both : (places : List ℕ) (marks : List Mark) (slots : List Slot) (begun : List ℕ) (size : ℕ) → length slots ≡ size → AreInside at size places → AreInside at size begun
        → marked options places marks (both slots) begun ≡ both (marked options places marks slots begun)
    marked-both [] marks slots begun size n h b = refl
    marked-both (k ∷ places) [] slots begun size n h b = refl
    marked-both (k ∷ places) (Stays ∷ marks) slots begun size n h b = marked-both places marks slots begun size n h.2 b
    marked-both (k ∷ places) (Begins kind ∷ marks) slots begun size n h b = marked-both places marks slots (k ∷ begun) size n h.2 (h.0, h.1, b)
    marked-both (k ∷ places) (Ends kind ∷ marks) slots [] size n h b = marked-both places marks slots [] size n h.2 b
    marked-both (k ∷ places) (Ends kind ∷ marks) slots (first ∷ begun) size n h b =
        let l = h.1 in
        let f = b.1 in
        ap (λ s. marked options places marks s begun) (spanned-both (span_tag options kind) first k slots b.0 h.0 (let q : first < length slots = omega (arith, f, n) in q) (let q : k < length slots = omega (arith, l, n) in q))
        ∙ marked-both places marks (spanned (span_tag options kind) first k slots) begun size (length-spanned (span_tag options kind) first k slots ∙ n) h.2 b.2
    marked-both (k ∷ places) (Blank ∷ marks) slots begun size n h b =
        let l = h.1 in
        ap (λ s. marked options places marks s begun) (set-both slots k NothingSlot h.0 (let q : k < length slots = omega (arith, l, n) in q))
        ∙ marked-both places marks (set slots k NothingSlot) begun size (length-set slots k NothingSlot ∙ n) h.2 b

    -- quotes and marks together
    dressed-both : (places : List ℕ) (marks : List Mark) (quotes characters : List ℕ) (slots : List Slot) → AreInside at (length slots) places → AreInside at (length slots) quotes
        → marked options places marks (quoted quotes characters (both slots)) [] ≡ both (marked options places marks (quoted quotes characters slots) [])
    dressed-both places marks quotes characters slots p q =
        ap (λ l. marked options places marks l []) (quoted-both quotes characters slots (length slots) refl q)
        ∙ marked-both places marks (quoted quotes characters slots) [] (length slots) (length-quoted quotes characters slots) p tt

-- an element around slots with characters and marks
pub dressed-wrapped : (options : Options) (at : ℕ) (x : Slot) (places : List ℕ) (marks : List Mark) (quotes characters : List ℕ) (slots : List Slot) → at < length slots → AreInside at (length slots) places → AreInside at (length slots) quotes
    → marked options places marks (quoted quotes characters (set slots at x ++ (EndSlot ∷ []))) [] ≡ wrapped at x (marked options places marks (quoted quotes characters slots) [])
dressed-wrapped options at x places marks quotes characters slots there p q =
    let dressed = marked options places marks (quoted quotes characters slots) [] in
    let n = length-marked at x EndSlot options places marks (quoted quotes characters slots) [] in
    let m = length-quoted at x EndSlot quotes characters slots in
    dressed-both at x EndSlot options places marks quotes characters slots p q
    ∙ ap (λ l. l ++ (EndSlot ∷ [])) (set_split dressed at x (let g : at < length dressed = omega (arith, n, m, there) in g))
    ∙ append_assoc (take at dressed) (x ∷ drop (suc at) dressed) (EndSlot ∷ [])

-- ## The slots of quotes and of the bytes of runs

pub ahead-inside : (slots : List CodeSlot) (from end : ℕ) (places : List ℕ) (at : ℕ) → at < from → AreAhead slots from end places → AreInside at (length slots) places
ahead-inside slots from end [] at lt h = tt
ahead-inside slots from end (k ∷ places) at lt h = let a = h.1 in let b : at < k = omega (arith, lt, a) in (b, h.2, ahead-inside slots (suc k) h.0 places at (omega (arith, b)) h.6)

pub texts-inside : (slots : List CodeSlot) (quotes : List PlacedQuote) (low at : ℕ) → at < low → HaveTexts slots quotes → All (λ (q : PlacedQuote). low ≤ q.slot) quotes → AreInside at (length slots) (map (λ (q : PlacedQuote). q.slot) quotes)
texts-inside slots [] low at lt h b = tt
texts-inside slots (q ∷ quotes) low at lt h b =
    let first = all-head (λ (q : PlacedQuote). low ≤ q.slot) q quotes b in
    let there = h 0 q (let g : 0 < length (q ∷ quotes) = omega arith in g) in
    (omega (arith, lt, first), there.0, texts-inside slots quotes low at lt (λ k d l. h (suc k) d (let g : suc k < length (q ∷ quotes) = omega (arith, l) in g)) (all-tail (λ (q : PlacedQuote). low ≤ q.slot) q quotes b))
