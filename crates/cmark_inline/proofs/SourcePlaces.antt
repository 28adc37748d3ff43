-- Places of the source and of a leaf's text.
use Rattle.std.specs.Prelude.{if◌then◌else◌, nat_lt}
use Rattle.std.proofs.Common.{◌≡◌, ◌⊎◌, inl, inr, ℕ, ◌+◌, ◌-◌, ◌≤◌, ◌<◌, Bool, true, false, List, [], ◌∷◌, length, drop, take, get_or, refl, sym, ap, ◌∙◌, subst, arith, drop-drop, get_or-drop, length-drop}
use Rattle.std.specs.Str.{IsCharBoundary}
use Rattle.std.proofs.lemmas.Bool.{lt-ltb, le-ltb, ltb-true, ltb-false}
use Rattle.std.proofs.lemmas.List.{drop-take}
use Rattle.std.proofs.lemmas.Str.{IsCharBoundary-end}
use Rattle.cmark_leaf_text.specs.declared.leaf_text.LeafText.{LeafText}
use Rattle.cmark_leaf_text.specs.declared.stretch.Stretch.{Stretch}
use Rattle.cmark_leaf_text.specs.Reads.{IsRead, IsFirstFrom, IsPart, text_of, source_of, place_of}
use Rattle.cmark_leaf_text.specs.Stretches.{AreStretches, joined, place_in, size_of}
use Rattle.cmark_leaf_text.proofs.StretchSteps.{size-joined, slice-length, byte-in-slice, placed, place-order, part-there}
use Rattle.cmark_inline.specs.MarkupInSource.{source_from}

-- a byte begins a stretch, or its place is directly after that of the byte before it
begins-or-touches : (source : List ℕ) (first from : ℕ) (ss : List Stretch) (at : ℕ) → AreStretches source first from ss → first ≤ at → at < first + length (joined source ss)
    → IsCharBoundary source (place_in ss at) ⊎ ((first < at) × (place_in ss at ≡ place_in ss (at - 1) + 1))
begins-or-touches source first from [] at all le lt = absurd (omega (arith, le, lt))
begins-or-touches source first from (x ∷ ss) at all le lt = go (λ l m. begins-or-touches source (first + size_of x) x.end ss at all.1 l m) (nat_lt at (x.at + size_of x)) refl
  where
    p : x.at ≡ first
    p = all.0.place

    n : length (joined source (x ∷ ss)) ≡ size_of x + length (joined source ss)
    n = size-joined source x ss all.0.within

    Result : Type 0
    Result = IsCharBoundary source (place_in (x ∷ ss) at) ⊎ ((first < at) × (place_in (x ∷ ss) at ≡ place_in (x ∷ ss) (at - 1) + 1))

    place-at : (k : ℕ) (z : Bool) → nat_lt k (x.at + size_of x) ≡ z → place_in (x ∷ ss) k ≡ (if z then x.start + (k - x.at) else place_in ss k)
    place-at k z e = ap (λ b. if b then x.start + (k - x.at) else place_in ss k) e

    inside : at < x.at + size_of x → nat_lt first at ≡ true ⊎ nat_lt first at ≡ false → Result
    inside lt (inl e) =
        let s = ltb-true first at e in
        inr (
          s,
          place-at at true (lt-ltb at (x.at + size_of x) lt)
              ∙ (let q : x.start + (at - x.at) ≡ (x.start + (at - 1 - x.at)) + 1 = omega (arith, s, p) in q)
              ∙ ap (λ k. k + 1) (sym (place-at (at - 1) true (lt-ltb (at - 1) (x.at + size_of x) (let q : at - 1 < x.at + size_of x = omega (arith, lt, s) in q)))),
        )
    inside lt (inr e) =
        let s = ltb-false first at e in
        inl (subst (IsCharBoundary source) (sym (place-at at true (lt-ltb at (x.at + size_of x) lt) ∙ (let q : x.start + (at - x.at) ≡ x.start = omega (arith, s, p, le) in q))) all.0.starts)

    both : (z : Bool) → (z ≡ true) ⊎ (z ≡ false)
    both true = inl refl
    both false = inr refl

    following : x.at + size_of x ≤ at → IsCharBoundary source (place_in ss at) ⊎ ((first + size_of x < at) × (place_in ss at ≡ place_in ss (at - 1) + 1)) → Result
    following g (inl b) = inl (subst (IsCharBoundary source) (sym (place-at at false (le-ltb at (x.at + size_of x) g))) b)
    following g (inr h) =
        let s = h.0 in
        inr (
          (let q : first < at = omega (arith, s) in q),
          place-at at false (le-ltb at (x.at + size_of x) g) ∙ h.1
              ∙ ap (λ k. k + 1) (sym (place-at (at - 1) false (le-ltb (at - 1) (x.at + size_of x) (let q : x.at + size_of x ≤ at - 1 = omega (arith, s, p) in q)))),
        )

    go : (first + size_of x ≤ at → at < (first + size_of x) + length (joined source ss) → IsCharBoundary source (place_in ss at) ⊎ ((first + size_of x < at) × (place_in ss at ≡ place_in ss (at - 1) + 1)))
        → (z : Bool) → nat_lt at (x.at + size_of x) ≡ z → Result
    go more true e = inside (ltb-true at (x.at + size_of x) e) (both (nat_lt first at))
    go more false e =
        let g = ltb-false at (x.at + size_of x) e in
        following g (more (let q : first + size_of x ≤ at = omega (arith, p, g) in q) (let q : at < (first + size_of x) + length (joined source ss) = omega (arith, lt, n) in q))

-- the bytes from an offset on, seen from an earlier offset
pub drop-to : (bytes : List ℕ) (ahead end : ℕ) → ahead ≤ end → drop (end - ahead) (drop ahead bytes) ≡ drop end bytes
drop-to bytes ahead end le = drop-drop (end - ahead) ahead bytes ∙ ap (λ k. drop k bytes) (let q : ahead + (end - ahead) ≡ end = omega (arith, le) in q)

pub edge-to : (bytes : List ℕ) (ahead end : ℕ) → ahead ≤ end → IsCharBoundary bytes end → IsCharBoundary (drop ahead bytes) (end - ahead)
edge-to bytes ahead end le h =
    let n = length-drop ahead bytes in
    let within = h.0 in
    let same : get_or (drop ahead bytes) (end - ahead) 0 ≡ get_or bytes end 0 = get_or-drop ahead bytes (end - ahead) 0 ∙ ap (λ k. get_or bytes k 0) (let q : ahead + (end - ahead) ≡ end = omega (arith, le) in q) in (
      (let q : end - ahead ≤ length (drop ahead bytes) = omega (arith, n, within, le) in q),
      (λ lt big. subst (λ b. 192 ≤ b) (sym same) (h.1 (let q : end < length bytes = omega (arith, lt, n, le) in q) (subst (λ b. 128 ≤ b) same big))),
    )

module _ (leaf : LeafText) (read : IsRead leaf) where
  abbrev text : List ℕ
  text = text_of leaf

  abbrev ss : List Stretch
  ss = leaf.stretches.items

  abbrev source : List ℕ
  source = source_of leaf

  counted : (k : ℕ) → k < length text → k < 0 + length (joined source ss)
  counted k lt = omega (arith, lt)

  -- the first byte of the text from a character boundary of the source on is at a character boundary of the text
  pub first-edge : (place end : ℕ) → IsCharBoundary source place → IsFirstFrom leaf place end → IsCharBoundary text end
  first-edge place end edge first = (first.within, λ lt big. go lt big (begins-or-touches source 0 0 ss end read.stretches (omega arith) (counted end lt)))
    where
      same : end < length text → get_or text end 0 ≡ get_or source (place_in ss end) 0
      same lt = ap (λ k. get_or text k 0) (let q : end ≡ end - 0 = omega arith in q) ∙ (placed source 0 0 ss end read.stretches (omega arith) (counted end lt)).byte

      from-source : end < length text → 128 ≤ get_or text end 0 → IsCharBoundary source (place_in ss end) → 192 ≤ get_or text end 0
      from-source lt big b =
          let w = (placed source 0 0 ss end read.stretches (omega arith) (counted end lt)).within in
          subst (λ n. 192 ≤ n) (sym (same lt)) (b.1 w (subst (λ n. 128 ≤ n) (same lt) big))

      go : end < length text → 128 ≤ get_or text end 0 → IsCharBoundary source (place_in ss end) ⊎ ((0 < end) × (place_in ss end ≡ place_in ss (end - 1) + 1)) → 192 ≤ get_or text end 0
      go lt big (inl b) = from-source lt big b
      go lt big (inr h) =
          let some = h.0 in
          let next = h.1 in
          let a = first.before (end - 1) (let q : end - 1 < end = omega (arith, some) in q) in
          let b = first.following end (omega arith) lt in
          from-source lt big (subst (IsCharBoundary source) (let q : place ≡ place_in ss end = omega (arith, next, a, b) in q) edge)

  -- a later byte has no earlier place
  pub order : (a b : ℕ) → a ≤ b → b < length text → place_in ss a ≤ place_in ss b
  order a b le lt = place-order source 0 0 ss a b read.stretches (omega arith) le (counted b lt)

  -- if a place is after that of a byte, the first byte from this place on is after that byte
  pub first-further : (place at end : ℕ) → at < length text → place_of leaf at < place → IsFirstFrom leaf place end → at < end
  first-further place at end lt following first = go (nat_lt at end) refl
    where
      go : (z : Bool) → nat_lt at end ≡ z → at < end
      go true e = ltb-true at end e
      go false e = let g = ltb-false at end e in let p = first.following at g lt in absurd (omega (arith, p, following))

  -- a character boundary of the source from a byte on is one of the whole source
  pub source-edge : (at size : ℕ) → IsPart text at (length text) → IsCharBoundary (source_from leaf at) size → IsCharBoundary source (place_of leaf at + size)
  source-edge at size part h = go (nat_lt size (stop - p)) refl
    where
      stop : ℕ
      stop = place_in ss (length text - 1) + 1

      p : ℕ
      p = place_in ss at

      there : IsPart source p stop
      there = part-there source ss at (length text) read.stretches part

      sized : length (source_from leaf at) ≡ stop - p
      sized = slice-length source p stop there.within

      go : (z : Bool) → nat_lt size (stop - p) ≡ z → IsCharBoundary source (p + size)
      go true e =
          let lt = ltb-true size (stop - p) e in
          let w = there.within in
          let same = byte-in-slice source p stop size lt w in (
            (let q : p + size ≤ length source = omega (arith, lt, w) in q),
            (λ l big. subst (λ b. 192 ≤ b) same (h.1 (let q : size < length (source_from leaf at) = omega (arith, lt, sized) in q) (subst (λ b. 128 ≤ b) (sym same) big))),
          )
      go false e =
          let g = ltb-false size (stop - p) e in
          let l = h.0 in
          let some = there.some in
          subst (IsCharBoundary source) (let q : stop ≡ p + size = omega (arith, g, l, sized, some) in q) there.ends

  -- after markup that the source closes, the text continues at a later character boundary
  pub found-edge : (at size end : ℕ) → IsPart text at (at + 1) → 0 < size → IsCharBoundary (source_from leaf at) size → IsFirstFrom leaf (place_of leaf at + size) end → (at < end) × IsCharBoundary text end
  found-edge at size end part some edge first =
      let w = part.within in
      let lt : at < length text = omega (arith, w) in
      let whole : IsPart text at (length text) = record { some = lt; within = (let q : length text ≤ length text = omega arith in q); starts = part.starts; ends = IsCharBoundary-end text } in (
        first-further (place_of leaf at + size) at end lt (let q : place_of leaf at < place_of leaf at + size = omega (arith, some) in q) first,
        first-edge (place_of leaf at + size) end (source-edge at size whole edge) first,
      )

  -- the source from a later byte on
  pub source-later : (a b : ℕ) → a ≤ b → b < length text → source_from leaf b ≡ drop (place_of leaf b - place_of leaf a) (source_from leaf a)
  source-later a b le lt =
      let stop : ℕ = place_in ss (length text - 1) + 1 in
      let p : ℕ = place_in ss a in
      let q : ℕ = place_in ss b in
      let o = order a b le lt in
      let l = order b (length text - 1) (let h : b ≤ length text - 1 = omega (arith, lt) in h) (let h : length text - 1 < length text = omega (arith, lt) in h) in
      ap (take (stop - q)) (ap (λ k. drop k source) (let h : q ≡ p + (q - p) = omega (arith, o) in h) ∙ sym (drop-drop (q - p) p source))
      ∙ sym (drop-take (q - p) (stop - q) (drop p source))
      ∙ ap (λ n. drop (q - p) (take n (drop p source))) (let h : (q - p) + (stop - q) ≡ stop - p = omega (arith, o, l) in h)

  -- the source from a byte on is the source from the leaf's first byte on, without the bytes before that byte
  pub source-ahead : (at : ℕ) → at < length text → source_from leaf at ≡ drop (place_of leaf at - place_of leaf 0) (source_from leaf 0)
  source-ahead at lt = source-later 0 at (omega arith) lt

  -- a byte that begins a character in the text begins one in the source
  pub edge-ahead : (at : ℕ) → at < length text → IsCharBoundary text at → IsCharBoundary (source_from leaf 0) (place_of leaf at - place_of leaf 0)
  edge-ahead at lt h =
      let stop : ℕ = place_in ss (length text - 1) + 1 in
      let p : ℕ = place_in ss 0 in
      let q : ℕ = place_in ss at in
      let o = order 0 at (omega arith) lt in
      let l = order at (length text - 1) (omega (arith, lt)) (omega (arith, lt)) in
      let there = placed source 0 0 ss at read.stretches (omega arith) (counted at lt) in
      let last = (placed source 0 0 ss (length text - 1) read.stretches (omega arith) (counted (length text - 1) (omega (arith, lt)))).within in
      let w : stop ≤ length source = omega (arith, last) in
      let n = slice-length source p stop w in
      let byte : get_or (source_from leaf 0) (q - p) 0 ≡ get_or text at 0 =
      byte-in-slice source p stop (q - p) (omega (arith, o, l)) w
      ∙ ap (λ k. get_or source k 0) (let e : p + (q - p) ≡ q = omega (arith, o) in e)
      ∙ sym (ap (λ k. get_or text k 0) (let e : at ≡ at - 0 = omega arith in e) ∙ there.byte) in (
        (let e : q - p ≤ length (source_from leaf 0) = omega (arith, n, o, l) in e),
        (λ within big. subst (λ b. 192 ≤ b) (sym byte) (h.1 lt (subst (λ b. 128 ≤ b) byte big))),
      )
