-- The text of a leaf that was read is no longer than the leaf in the source.
use Rattle.std.specs.Prelude.{◌-◌, if◌then◌else◌, nat_lt}
use Rattle.std.proofs.Common.{◌≡◌, ℕ, zero, suc, ◌+◌, ◌<◌, ◌≤◌, Bool, true, false, List, [], ◌∷◌, length, length-append, refl, sym, ap, ◌∙◌, subst, arith}
use Rattle.std.proofs.lemmas.Bool.{ltb-true, ltb-false}
use Rattle.cmark_grammar.specs.LeafText.{Leaf, Stretch, begin_of, end_of, size_of}
use Rattle.cmark_grammar.specs.Tokens.{slice}
use Rattle.cmark_inline.specs.Counted.{extent_of, extent_up_to}
use Rattle.cmark_inline_model.specs.LeafExtents.{extent}
use Rattle.cmark_inline_model.proofs.LeafSteps.{slice-size}
use Rattle.cmark_leaf_text.specs.Reads.{place_of, text_of}
use Rattle.cmark_leaf_text.specs.Stretches.{AreLines, leaf_bytes, place_on}
use Rattle.cmark_leaf_text.specs.declared.leaf_text.LeafText.{LeafText}
use Rattle.cmark_leaf_text.specs.declared.stretch.LeafLine.{LeafLine}
use Rattle.cmark_block_walk.specs.Walking.{AreLinesOf, lines_of}

by-less : (P : ℕ → Type 0) (m n a b : ℕ) → (m < n → P a) → (n ≤ m → P b) → P (if nat_lt m n then a else b)
by-less P m n a b h k = go (nat_lt m n) refl
  where
    go : (z : Bool) → nat_lt m n ≡ z → P (if z then a else b)
    go true e = h (ltb-true m n e)
    go false e = k (ltb-false m n e)

-- a place is between the begin and the end of these stretches
record Lies (stretches : List Stretch) (place : ℕ) : Type 0 where
  pub low : begin_of stretches ≤ place
  pub high : place < end_of stretches

-- the first of several stretches does not change the end
end-following : (s t : Stretch) (more : List Stretch) → end_of (s ∷ (t ∷ more)) ≡ end_of (t ∷ more)
end-following s t more = by-less (λ n. n ≡ end_of (t ∷ more)) (size_of (t ∷ more)) 0 (s.end - (0 - size_of (t ∷ more))) (end_of (t ∷ more)) (λ less. absurd (omega (arith, less))) (λ more. refl)

module _ (source : List ℕ) where
  rising : (from : ℕ) (s : Stretch) (more : List Stretch) → AreLines source from (lines_of (s ∷ more)) → (from ≤ s.start) × (s.start ≤ end_of (s ∷ more)) × (s.end ≤ end_of (s ∷ more))
  rising from s [] h = let a = h.0.following in let b = h.0.content in (a, (let q : s.start ≤ s.end - 0 = omega (arith, b) in q), (let q : s.end ≤ s.end - 0 = omega arith in q))
  rising from s (t ∷ more) h =
      let a = h.0.following in
      let b = h.0.content in
      let r = rising s.end t more h.1 in
      let c = r.0 in
      let d = r.1 in
      let e = end-following s t more in
      (a, omega (arith, b, c, d, e), omega (arith, c, d, e))

  -- the bytes of the lines together are no longer than the leaf in the source
  few-bytes : (from : ℕ) (stretches : List Stretch) → AreLines source from (lines_of stretches) → length (leaf_bytes source (lines_of stretches)) ≤ end_of stretches - begin_of stretches
  few-bytes from [] h = omega arith
  few-bytes from (s ∷ []) h = let n = slice-size source s.start s.end h.0.within in omega (arith, n)
  few-bytes from (s ∷ (t ∷ more)) h =
      let n = slice-size source s.start s.end h.0.within in
      let l = length-append (slice source s.start s.end) (leaf_bytes source (lines_of (t ∷ more))) in
      let f = few-bytes s.end (t ∷ more) h.1 in
      let r = rising s.end t more h.1 in
      let a = h.0.content in
      let b = r.0 in
      let c = r.1 in
      let e = end-following s t more in
      omega (arith, n, l, f, a, b, c, e)

  -- each byte of the lines is in the leaf
  lies : (from : ℕ) (stretches : List Stretch) → AreLines source from (lines_of stretches) → (k : ℕ) → k < length (leaf_bytes source (lines_of stretches)) → Lies stretches (place_on (lines_of stretches) k)
  lies from [] h k lt = absurd (omega (arith, lt))
  lies from (s ∷ []) h k lt =
      let n = slice-size source s.start s.end h.0.within in
      by-less (Lies (s ∷ [])) k (s.end - s.start) (s.start + k) (k - (s.end - s.start))
      (λ less. record { low = omega arith; high = omega (arith, less) })
      (λ more. absurd (omega (arith, more, n, lt)))
  lies from (s ∷ (t ∷ more)) h k lt =
      let n = slice-size source s.start s.end h.0.within in
      let l = length-append (slice source s.start s.end) (leaf_bytes source (lines_of (t ∷ more))) in
      let r = rising s.end t more h.1 in
      let a = h.0.content in
      let b = r.0 in
      let c = r.1 in
      let e = end-following s t more in
      by-less (Lies (s ∷ (t ∷ more))) k (s.end - s.start) (s.start + k) (place_on (lines_of (t ∷ more)) (k - (s.end - s.start)))
      (λ less. record { low = omega arith; high = omega (arith, less, a, b, c, e) })
      (λ high.
      let q = lies s.end (t ∷ more) h.1 (k - (s.end - s.start)) (omega (arith, high, n, l, lt)) in
      let d = q.low in
      let f = q.high in
      record { low = omega (arith, a, b, d); high = omega (arith, e, f) })

module _ (source : List ℕ) (leaf : Leaf) (lines : List LeafLine) (are : AreLinesOf source leaf lines) (read : LeafText) (text : text_of read ≡ leaf_bytes source lines) where
  turn : AreLines source 0 (lines_of leaf.stretches)
  turn = subst (AreLines source 0) are.are are.in_turn

  same : text_of read ≡ leaf_bytes source (lines_of leaf.stretches)
  same = text ∙ ap (leaf_bytes source) are.are

  pub text-within : length (text_of read) ≤ extent leaf
  text-within = let n = ap length same in let f = few-bytes source 0 leaf.stretches turn in omega (arith, n, f)

  pub extent-within : ((k : ℕ) → k < length (text_of read) → place_of read k ≡ place_on lines k) → extent_of read ≤ extent leaf
  extent-within places = go (length (text_of read)) (omega arith)
    where
      here : (k : ℕ) → k < length (text_of read) → Lies leaf.stretches (place_of read k)
      here k lt =
          let n = ap length same in
          subst (Lies leaf.stretches) (sym (places k lt ∙ ap (λ l. place_on l k) are.are)) (lies source 0 leaf.stretches turn k (omega (arith, n, lt)))

      go : (count : ℕ) → count ≤ length (text_of read) → extent_up_to read count ≤ extent leaf
      go zero le = omega arith
      go (suc count) le =
          let a = here 0 (omega (arith, le)) in
          let b = here count (omega (arith, le)) in
          let c = a.low in
          let d = b.high in
          omega (arith, c, d)
