-- The marks of spans, written byte after byte, give the slots that the spans give, written one after the other.
use Rattle.std.proofs.Common.{◌≡◌, ◌⊎◌, inl, inr, ⊎_elim, ℕ, zero, suc, ◌+◌, ◌-◌, ◌<◌, ◌≤◌, List, [], ◌∷◌, ◌++◌, length, drop, get_or, set, Option, Some, None, refl, sym, ap, ◌∙◌, append_assoc, arith}
use Rattle.std.specs.Prelude.{map}
use Rattle.std.proofs.Math.Seq.{drop-cons}
use Rattle.std.proofs.lemmas.List.{get_or-set_other, map-append, set_comm}
use Rattle.cmark_grammar.specs.Options.{Options}
use Rattle.cmark_grammar.specs.Spans.{Span, SpanKind, Strong, DoubleTilde, DoubleEquals, span_tag, span_width, Spans, Nil, Single, Around, TakePlaces}
use Rattle.cmark_grammar.specs.Tag.{Tag}
use Rattle.cmark_inline_model.specs.SlotRows.{Mark, Stays, Begins, Ends, Blank, Slot, NothingSlot, EndSlot, BeginSlot, ItemSlot, closing, end_in, marked, marks_of, opening, spanned, start_in, used_up}
use Rattle.cmark_grammar.specs.Items as items
use Rattle.cmark_grammar.specs.Siblings.{item}
use Rattle.cmark_slots.specs.PairSlots.{AreApartFrom, AreInTurn, inner_used, write_span, write_spans}
use Rattle.cmark_slots.proofs.PairSpans.{AreTightAll, IsTight, moved_span, spans_in, wide-enough}

-- ## The places of spans

-- these spans have their bytes at places from `n` up to `m`
abbrev pub Within : (n m : ℕ) → List Span → Type 0
Within n m [] = Unit {0}
Within n m (span ∷ spans) = (n ≤ span.start) × (span.start + (span_width span.kind + span_width span.kind) ≤ span.end) × (span.end ≤ m) × Within n m spans

within-append : (n m : ℕ) (a b : List Span) → Within n m a → Within n m b → Within n m (a ++ b)
within-append n m [] b h k = k
within-append n m (s ∷ a) b h k = (h.0, h.1, h.2, within-append n m a b h.3 k)

within-wider : (n n1 m m1 : ℕ) (spans : List Span) → n1 ≤ n → m ≤ m1 → Within n m spans → Within n1 m1 spans
within-wider n n1 m m1 [] a b h = tt
within-wider n n1 m m1 (s ∷ spans) a b h = let l = h.0 in let g = h.2 in (omega (arith, l, a), h.1, omega (arith, g, b), within-wider n n1 m m1 spans a b h.3)

takes-ordered : (spans : Spans) (n m : ℕ) → TakePlaces n spans m → n ≤ m
takes-ordered Nil n m h = omega (arith, h)
takes-ordered (Single at after) n m h = let i = takes-ordered after (suc n) m h.1 in omega (arith, i)
takes-ordered (Around span inside after) n m h =
    let i = takes-ordered inside (n + span_width span.kind) h.mid h.inside in
    let a = takes-ordered after span.end m h.after in
    let e = h.end in
    omega (arith, i, a, e)

pub in-within : (spans : Spans) (n m : ℕ) → TakePlaces n spans m → Within n m (spans_in spans)
in-within Nil n m h = tt
in-within (Single at after) n m h = within-wider (suc n) n m m (spans_in after) (omega arith) (omega arith) (in-within after (suc n) m h.1)
in-within (Around span inside after) n m h =
    let i = takes-ordered inside (n + span_width span.kind) h.mid h.inside in
    let a = takes-ordered after span.end m h.after in
    let s = h.start in
    let e = h.end in
    within-append n m (spans_in inside) (span ∷ spans_in after)
    (within-wider (n + span_width span.kind) n h.mid m (spans_in inside) (omega arith) (omega (arith, a, e)) (in-within inside (n + span_width span.kind) h.mid h.inside))
    ((let q : n ≤ span.start = omega (arith, s) in q), (let q : span.start + (span_width span.kind + span_width span.kind) ≤ span.end = omega (arith, s, i, e) in q), a, within-wider span.end n m m (spans_in after) (omega (arith, i, e)) (omega arith) (in-within after span.end m h.after))

apart-append : (span : Span) (a b : List Span) → AreApartFrom span a → AreApartFrom span b → AreApartFrom span (a ++ b)
apart-append span [] b h k = k
apart-append span (s ∷ a) b h k = (h.0, apart-append span a b h.1 k)

abbrev AllApart : (a b : List Span) → Type 0
AllApart [] b = Unit {0}
AllApart (s ∷ a) b = AreApartFrom s b × AllApart a b

turn-append : (a b : List Span) → AreInTurn a → AreInTurn b → AllApart a b → AreInTurn (a ++ b)
turn-append [] b h k x = k
turn-append (s ∷ a) b h k x = (apart-append s a b h.0 x.0, turn-append a b h.1 k x.1)

apart-following : (span : Span) (n m : ℕ) (spans : List Span) → span.end ≤ n → Within n m spans → AreApartFrom span spans
apart-following span n m [] le h = tt
apart-following span n m (s ∷ spans) le h = let l = h.0 in (inr (omega (arith, l, le)), apart-following span n m spans le h.3)

apart-inside : (span : Span) (n mid from m : ℕ) (inner following : List Span) → span.start + span_width span.kind ≤ n → mid + span_width span.kind ≤ span.end → span.end ≤ from → Within n mid inner → Within from m following → AllApart inner (span ∷ following)
apart-inside span n mid from m [] following a b c h k = tt
apart-inside span n mid from m (s ∷ inner) following a b c h k =
    let l = h.0 in
    let g = h.2 in
    ((inl ((let q : span.start + span_width span.kind ≤ s.start = omega (arith, a, l) in q), (let q : s.end + span_width span.kind ≤ span.end = omega (arith, b, g) in q)), apart-following s from m following (omega (arith, b, c, g)) k), apart-inside span n mid from m inner following a b c h.3 k)

pub in-turn : (spans : Spans) (n m : ℕ) → TakePlaces n spans m → AreInTurn (spans_in spans)
in-turn Nil n m h = tt
in-turn (Single at after) n m h = in-turn after (suc n) m h.1
in-turn (Around span inside after) n m h =
    let s = h.start in
    let e = h.end in
    let others = in-within after span.end m h.after in
    turn-append (spans_in inside) (span ∷ spans_in after) (in-turn inside (n + span_width span.kind) h.mid h.inside) (apart-following span span.end m (spans_in after) (omega arith) others, in-turn after span.end m h.after)
    (apart-inside span (n + span_width span.kind) h.mid span.end m (spans_in inside) (spans_in after) (omega (arith, s)) (omega (arith, e)) (omega arith) (in-within inside (n + span_width span.kind) h.mid h.inside) others)

-- ## Writing commutes with a write before all spans

used-skips : (count at k : ℕ) (x : Slot) (slots : List Slot) → k < at → used_up at count (set slots k x) ≡ set (used_up at count slots) k x
used-skips zero at k x slots lt = refl
used-skips (suc count) at k x slots lt =
    ap (used_up (suc at) count) (set_comm slots k at x NothingSlot (λ (e : k ≡ at). absurd (omega (arith, e, lt)))) ∙ used-skips count (suc at) k x (set slots at NothingSlot) (omega (arith, lt))

spanned-skips : (tag : Option Tag) (first last k : ℕ) (x : Slot) (slots : List Slot) → k < first → first < last → spanned tag first last (set slots k x) ≡ set (spanned tag first last slots) k x
spanned-skips (Some tag) first last k x slots lt order =
    let one : get_or (set slots k x) first NothingSlot ≡ get_or slots first NothingSlot = get_or-set_other slots k first x NothingSlot (λ (e : first ≡ k). absurd (omega (arith, e, lt))) in
    let other : get_or (set slots k x) last NothingSlot ≡ get_or slots last NothingSlot = get_or-set_other slots k last x NothingSlot (λ (e : last ≡ k). absurd (omega (arith, e, lt, order))) in
    let made : Slot = BeginSlot tag (start_in (get_or slots first NothingSlot)) (end_in (get_or slots last NothingSlot)) in
    ap (λ (s : Slot). set (set (set slots k x) last EndSlot) first (BeginSlot tag (start_in s) (end_in (get_or (set slots k x) last NothingSlot)))) one
    ∙ ap (λ (s : Slot). set (set (set slots k x) last EndSlot) first (BeginSlot tag (start_in (get_or slots first NothingSlot)) (end_in s))) other
    ∙ ap (λ (l : List Slot). set l first made) (set_comm slots k last x EndSlot (λ (e : k ≡ last). absurd (omega (arith, e, lt, order))))
    ∙ set_comm (set slots last EndSlot) k first x made (λ (e : k ≡ first). absurd (omega (arith, e, lt)))
spanned-skips None first last k x slots lt order =
    let one : get_or (set slots k x) first NothingSlot ≡ get_or slots first NothingSlot = get_or-set_other slots k first x NothingSlot (λ (e : first ≡ k). absurd (omega (arith, e, lt))) in
    let other : get_or (set slots k x) last NothingSlot ≡ get_or slots last NothingSlot = get_or-set_other slots k last x NothingSlot (λ (e : last ≡ k). absurd (omega (arith, e, lt, order))) in
    let made : Slot = ItemSlot (item items.Own (start_in (get_or slots first NothingSlot)) (end_in (get_or slots last NothingSlot))) in
    ap (λ (s : Slot). set (used_up (suc first) (last - first) (set slots k x)) first (ItemSlot (item items.Own (start_in s) (end_in (get_or (set slots k x) last NothingSlot))))) one
    ∙ ap (λ (s : Slot). set (used_up (suc first) (last - first) (set slots k x)) first (ItemSlot (item items.Own (start_in (get_or slots first NothingSlot)) (end_in s)))) other
    ∙ ap (λ (l : List Slot). set l first made) (used-skips (last - first) (suc first) k x slots (omega (arith, lt)))
    ∙ set_comm (used_up (suc first) (last - first) slots) k first x made (λ (e : k ≡ first). absurd (omega (arith, e, lt)))

inner-skips : (width first last k : ℕ) (x : Slot) (slots : List Slot) → k < first → first < last → inner_used width first last (set slots k x) ≡ set (inner_used width first last slots) k x
inner-skips zero first last k x slots lt order = refl
inner-skips (suc zero) first last k x slots lt order = refl
inner-skips (suc (suc n)) first last k x slots lt order =
    ap (λ (l : List Slot). set l (last - 1) NothingSlot) (set_comm slots k (suc first) x NothingSlot (λ (e : k ≡ suc first). absurd (omega (arith, e, lt))))
    ∙ set_comm (set slots (suc first) NothingSlot) k (last - 1) x NothingSlot (λ (e : k ≡ last - 1). absurd (omega (arith, e, lt, order)))

abbrev AllAfter : (k : ℕ) → List Span → Type 0
AllAfter k [] = Unit {0}
AllAfter k (span ∷ spans) = (k < span.start) × (span.start < span.end - 1) × AllAfter k spans

write-skips : (options : Options) (spans : List Span) (k : ℕ) (x : Slot) (slots : List Slot) → AllAfter k spans → write_spans options spans (set slots k x) ≡ set (write_spans options spans slots) k x
write-skips options [] k x slots h = refl
write-skips options (s ∷ spans) k x slots h =
    let w = span_width s.kind in
    ap (λ (l : List Slot). write_spans options spans (spanned (span_tag options s.kind) s.start (s.end - 1) l)) (inner-skips w s.start (s.end - 1) k x slots h.0 h.1)
    ∙ ap (write_spans options spans) (spanned-skips (span_tag options s.kind) s.start (s.end - 1) k x (inner_used w s.start (s.end - 1) slots) h.0 h.1)
    ∙ write-skips options spans k x (write_span options s slots) h.2

write-append : (options : Options) (a b : List Span) (slots : List Slot) → write_spans options (a ++ b) slots ≡ write_spans options b (write_spans options a slots)
write-append options [] b slots = refl
write-append options (s ∷ a) b slots = write-append options a b (write_span options s slots)

-- ## The marks of a span

record IsOne (k : SpanKind) : Type 0 where
  width : span_width k ≡ 1
  opens : opening k ≡ Begins k ∷ []
  closes : closing k ≡ Ends k ∷ []

record IsTwo (k : SpanKind) : Type 0 where
  width : span_width k ≡ 2
  opens : opening k ≡ Begins k ∷ (Blank ∷ [])
  closes : closing k ≡ Blank ∷ (Ends k ∷ [])

shape : (k : SpanKind) → IsOne k ⊎ IsTwo k
shape Strong = inr (record { width = refl; opens = refl; closes = refl })
shape DoubleTilde = inr (record { width = refl; opens = refl; closes = refl })
shape DoubleEquals = inr (record { width = refl; opens = refl; closes = refl })
shape _ = inl (record { width = refl; opens = refl; closes = refl })

regroup : (x m y v r : List Mark) → ((x ++ (m ++ y)) ++ v) ++ r ≡ x ++ (m ++ (y ++ (v ++ r)))
regroup x m y v r = simp append_assoc

abbrev pub Ascends : List ℕ → Type 0
Ascends places = (i j : ℕ) → i < j → j < length places → get_or places i 0 < get_or places j 0

module _ (options : Options) (places : List ℕ) where
  -- the slots after the spans are written
  abbrev after_spans : Spans → List Slot → List Slot
  after_spans spans slots = write_spans options (map (moved_span (λ k. get_or places k 0)) (spans_in spans)) slots

  abbrev at : ℕ → ℕ
  at k = get_or places k 0

  next : (n : ℕ) → n < length places → drop n places ≡ at n ∷ drop (suc n) places
  next n lt = drop-cons places n 0 lt

  around-after : (span : Span) (inside after : Spans) (slots : List Slot) → after_spans (Around span inside after) slots ≡ after_spans after (write_span options (moved_span (λ k. get_or places k 0) span) (after_spans inside slots))
  around-after span inside after slots =
      ap (λ l. write_spans options l slots) (map-append (moved_span (λ k. get_or places k 0)) (spans_in inside) (span ∷ spans_in after))
      ∙ write-append options (map (moved_span (λ k. get_or places k 0)) (spans_in inside)) (map (moved_span (λ k. get_or places k 0)) (span ∷ spans_in after)) slots

  all-after : Ascends places → (spans : List Span) (k n m : ℕ) → k < n → m ≤ length places → Within n m spans → AllAfter (at k) (map (moved_span (λ i. get_or places i 0)) spans)
  all-after up [] k n m lt le h = tt
  all-after up (s ∷ spans) k n m lt le h =
      let l = h.0 in
      let w = h.1 in
      let g = h.2 in
      let one = (wide-enough s.kind).0 in
      let inner = up s.start (s.end - 1) (omega (arith, w, one)) (omega (arith, g, le, w, one)) in (
        up k s.start (omega (arith, lt, l)) (omega (arith, w, g, le, one)),
        (let q : at s.start < at (s.end - 1) + 1 - 1 = omega (arith, inner) in q),
        all-after up spans k n m lt le h.3,
      )

  written-one : (span : Span) (n mid : ℕ) (slots : List Slot) → span_width span.kind ≡ 1 → span.start ≡ n → span.end ≡ mid + span_width span.kind
      → write_span options (moved_span (λ k. get_or places k 0) span) slots ≡ spanned (span_tag options span.kind) (at n) (at mid) slots
  written-one span n mid slots one s e =
      let tag = span_tag options span.kind in
      let first : at span.start ≡ at n = ap at s in
      let there = ap at (let q : span.end - 1 ≡ mid = omega (arith, e, one) in q) in
      let last : at (span.end - 1) + 1 - 1 ≡ at mid = omega (arith, there) in
      ap (λ w. spanned tag (at span.start) (at (span.end - 1) + 1 - 1) (inner_used w (at span.start) (at (span.end - 1) + 1 - 1) slots)) one
      ∙ ap (λ i. spanned tag i (at (span.end - 1) + 1 - 1) slots) first
      ∙ ap (λ i. spanned tag (at n) i slots) last

  written-two : (span : Span) (n mid : ℕ) (slots : List Slot) → span_width span.kind ≡ 2 → span.start ≡ n → span.end ≡ mid + span_width span.kind → IsTight (λ k. get_or places k 0) span
      → write_span options (moved_span (λ k. get_or places k 0) span) slots ≡ spanned (span_tag options span.kind) (at n) (at (suc mid)) (set (set slots (at (suc n)) NothingSlot) (at mid) NothingSlot)
  written-two span n mid slots two s e tight =
      let tag = span_tag options span.kind in
      let t = tight two in
      let t0 = t.0 in
      let t1 = t.1 in
      let first : at span.start ≡ at n = ap at s in
      let there = ap at (let q : span.end - 1 ≡ suc mid = omega (arith, e, two) in q) in
      let last : at (span.end - 1) + 1 - 1 ≡ at (suc mid) = omega (arith, there) in
      let second : suc (at span.start) ≡ at (suc n) = sym t0 ∙ ap (λ k. at (suc k)) s in
      let inner = ap at (let q : span.end - 2 ≡ mid = omega (arith, e, two) in q) in
      let before_last : at (span.end - 1) + 1 - 1 - 1 ≡ at mid = omega (arith, t1, inner) in
      ap (λ w. spanned tag (at span.start) (at (span.end - 1) + 1 - 1) (inner_used w (at span.start) (at (span.end - 1) + 1 - 1) slots)) two
      ∙ ap (λ i. spanned tag (at span.start) (at (span.end - 1) + 1 - 1) (set (set slots i NothingSlot) (at (span.end - 1) + 1 - 1 - 1) NothingSlot)) second
      ∙ ap (λ i. spanned tag (at span.start) (at (span.end - 1) + 1 - 1) (set (set slots (at (suc n)) NothingSlot) i NothingSlot)) before_last
      ∙ ap (λ i. spanned tag i (at (span.end - 1) + 1 - 1) (set (set slots (at (suc n)) NothingSlot) (at mid) NothingSlot)) first
      ∙ ap (λ i. spanned tag (at n) i (set (set slots (at (suc n)) NothingSlot) (at mid) NothingSlot)) last

  tight-parts : (a b : List Span) → AreTightAll (λ k. get_or places k 0) (a ++ b) → AreTightAll (λ k. get_or places k 0) a × AreTightAll (λ k. get_or places k 0) b
  tight-parts [] b h = (tt, h)
  tight-parts (s ∷ a) b h = let i = tight-parts a b h.1 in ((h.0, i.0), i.1)

  abbrev Says : Spans → (n m : ℕ) → Type 0
  Says spans n m = (rest : List Mark) (slots : List Slot) (begun : List ℕ) → marked options (drop n places) (marks_of spans ++ rest) slots begun ≡ marked options (drop m places) rest (after_spans spans slots) begun

  says-one : (span : Span) (inside after : Spans) (n mid m : ℕ) → IsOne span.kind → span.start ≡ n → span.end ≡ mid + span_width span.kind → n < length places → mid < length places
      → Says inside (n + span_width span.kind) mid → Says after span.end m → Says (Around span inside after) n m
  says-one span inside after n mid m one s e ln lm in_says after_says rest slots begun =
      let k = span.kind in
      let w = one.width in
      let more = closing k ++ (marks_of after ++ rest) in
      let from : n + span_width k ≡ suc n = omega (arith, w) in
      let to : suc mid ≡ span.end = omega (arith, e, w) in
      ap (λ ms. marked options (drop n places) ms slots begun) (regroup (opening k) (marks_of inside) (closing k) (marks_of after) rest ∙ ap (λ o. o ++ (marks_of inside ++ more)) one.opens)
      ∙ ap (λ ps. marked options ps (Begins k ∷ (marks_of inside ++ more)) slots begun) (next n ln)
      ∙ ap (λ i. marked options (drop i places) (marks_of inside ++ more) slots (at n ∷ begun)) (sym from)
      ∙ in_says more slots (at n ∷ begun)
      ∙ ap (λ c. marked options (drop mid places) (c ++ (marks_of after ++ rest)) (after_spans inside slots) (at n ∷ begun)) one.closes
      ∙ ap (λ ps. marked options ps (Ends k ∷ (marks_of after ++ rest)) (after_spans inside slots) (at n ∷ begun)) (next mid lm)
      ∙ ap (λ l. marked options (drop (suc mid) places) (marks_of after ++ rest) l begun) (sym (written-one span n mid (after_spans inside slots) w s e))
      ∙ ap (λ i. marked options (drop i places) (marks_of after ++ rest) (write_span options (moved_span (λ k. get_or places k 0) span) (after_spans inside slots)) begun) to
      ∙ after_says rest (write_span options (moved_span (λ k. get_or places k 0) span) (after_spans inside slots)) begun
      ∙ ap (λ l. marked options (drop m places) rest l begun) (sym (around-after span inside after slots))

  says-two : (span : Span) (inside after : Spans) (n mid m : ℕ) → IsTwo span.kind → span.start ≡ n → span.end ≡ mid + span_width span.kind → suc n < length places → suc mid < length places
      → IsTight (λ k. get_or places k 0) span → AllAfter (at (suc n)) (map (moved_span (λ k. get_or places k 0)) (spans_in inside))
      → Says inside (n + span_width span.kind) mid → Says after span.end m → Says (Around span inside after) n m
  says-two span inside after n mid m two s e ln lm tight skips in_says after_says rest slots begun =
      let k = span.kind in
      let w = two.width in
      let more = closing k ++ (marks_of after ++ rest) in
      let from : n + span_width k ≡ suc (suc n) = omega (arith, w) in
      let to : suc (suc mid) ≡ span.end = omega (arith, e, w) in
      let begun_slots = set slots (at (suc n)) NothingSlot in
      ap (λ ms. marked options (drop n places) ms slots begun) (regroup (opening k) (marks_of inside) (closing k) (marks_of after) rest ∙ ap (λ o. o ++ (marks_of inside ++ more)) two.opens)
      ∙ ap (λ ps. marked options ps (Begins k ∷ (Blank ∷ (marks_of inside ++ more))) slots begun) (next n (omega (arith, ln)) ∙ ap (λ ps. at n ∷ ps) (next (suc n) ln))
      ∙ ap (λ i. marked options (drop i places) (marks_of inside ++ more) begun_slots (at n ∷ begun)) (sym from)
      ∙ in_says more begun_slots (at n ∷ begun)
      ∙ ap (λ c. marked options (drop mid places) (c ++ (marks_of after ++ rest)) (after_spans inside begun_slots) (at n ∷ begun)) two.closes
      ∙ ap (λ ps. marked options ps (Blank ∷ (Ends k ∷ (marks_of after ++ rest))) (after_spans inside begun_slots) (at n ∷ begun)) (next mid (omega (arith, lm)) ∙ ap (λ ps. at mid ∷ ps) (next (suc mid) lm))
      ∙ ap (λ (l : List Slot). marked options (drop (suc (suc mid)) places) (marks_of after ++ rest) (spanned (span_tag options k) (at n) (at (suc mid)) (set l (at mid) NothingSlot)) begun) (write-skips options (map (moved_span (λ k. get_or places k 0)) (spans_in inside)) (at (suc n)) NothingSlot slots skips)
      ∙ ap (λ l. marked options (drop (suc (suc mid)) places) (marks_of after ++ rest) l begun) (sym (written-two span n mid (after_spans inside slots) w s e tight))
      ∙ ap (λ i. marked options (drop i places) (marks_of after ++ rest) (write_span options (moved_span (λ k. get_or places k 0) span) (after_spans inside slots)) begun) to
      ∙ after_says rest (write_span options (moved_span (λ k. get_or places k 0) span) (after_spans inside slots)) begun
      ∙ ap (λ l. marked options (drop m places) rest l begun) (sym (around-after span inside after slots))

  pub marks-say : Ascends places → (spans : Spans) (n m : ℕ) → TakePlaces n spans m → m ≤ length places → AreTightAll (λ k. get_or places k 0) (spans_in spans) → Says spans n m
  marks-say up Nil n m h le tight rest slots begun = ap (λ k. marked options (drop k places) rest slots begun) h
  marks-say up (Single i after) n m h le tight rest slots begun =
      let order = takes-ordered after (suc n) m h.1 in
      ap (λ ps. marked options ps (Stays ∷ (marks_of after ++ rest)) slots begun) (next n (omega (arith, order, le))) ∙ marks-say up after (suc n) m h.1 le tight rest slots begun
  marks-say up (Around span inside after) n m h le tight rest slots begun =
      let i = takes-ordered inside (n + span_width span.kind) h.mid h.inside in
      let a = takes-ordered after span.end m h.after in
      let e = h.end in
      let s = h.start in
      let parts = tight-parts (spans_in inside) (span ∷ spans_in after) tight in
      let inner : Says inside (n + span_width span.kind) h.mid = λ r l b. marks-say up inside (n + span_width span.kind) h.mid h.inside (omega (arith, a, e, le)) parts.0 r l b in
      let others : Says after span.end m = λ r l b. marks-say up after span.end m h.after le parts.1.1 r l b in
      ⊎_elim
      (λ (one : IsOne span.kind).
      let w = one.width in
      says-one span inside after n h.mid m one s e (omega (arith, i, a, e, le, w)) (omega (arith, a, e, le, w)) inner others rest slots begun)
      (λ (two : IsTwo span.kind).
      let w = two.width in
      says-two span inside after n h.mid m two s e (omega (arith, i, a, e, le, w)) (omega (arith, a, e, le, w)) parts.1.0
      (all-after up (spans_in inside) (suc n) (n + span_width span.kind) h.mid (omega (arith, w)) (omega (arith, a, e, le)) (in-within inside (n + span_width span.kind) h.mid h.inside)) inner others rest slots begun)
      (shape span.kind)
