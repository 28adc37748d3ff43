-- The offsets of the bytes of stretches that are pushed.
use Rattle.std.proofs.Common.{◌≡◌, ℕ, ◌+◌, ◌-◌, ◌≤◌, ◌<◌, Bool, true, false, List, [], ◌∷◌, ◌++◌, length, get_or, refl, sym, ap, ◌∙◌, subst, arith, length-append}
use Rattle.std.specs.Prelude.{if◌then◌else◌, nat_lt}
use Rattle.std.proofs.lemmas.Bool.{ltb-true, ltb-false}
use Rattle.cmark_leaf_text.specs.Stretches.{AreLines, AreStretches, IsOpen, PlacesMore, StandAs, joined, leaf_bytes, end_in_leaf, place_in, place_on, size_of}
use Rattle.cmark_leaf_text.specs.declared.stretch.LeafLine.{LeafLine}
use Rattle.cmark_leaf_text.specs.declared.stretch.Stretch.{Stretch}
use Rattle.cmark_leaf_text.proofs.StretchSteps.{first-open, from_start, joined-append, joined-one, ordered-open, size-joined, slice-length, slice-none}

-- a choice between two offsets, by a comparison
by-less : (P : ℕ → Type 0) (m n a b : ℕ) → (m < n → P a) → (n ≤ m → P b) → P (if nat_lt m n then a else b)
by-less P m n a b h k = go (nat_lt m n) refl
  where
    go : (z : Bool) → nat_lt m n ≡ z → P (if z then a else b)
    go true e = h (ltb-true m n e)
    go false e = k (ltb-false m n e)

module _ (source : List ℕ) where
  abbrev size : List Stretch → ℕ
  size ss = length (joined source ss)

  -- the number of bytes before the last stretch
  size-before : (at from : ℕ) (ss : List Stretch) (s : Stretch) → AreStretches source at from (ss ++ (s ∷ [])) → s.at ≡ at + size ss
  size-before at from [] s all = let p = all.0.place in omega (arith, p)
  size-before at from (x ∷ ss) s all =
      let i = size-before (at + size_of x) x.end ss s all.1 in
      let n = size-joined source x ss all.0.within in
      omega (arith, i, n)

  within-last : (at from : ℕ) (ss : List Stretch) (s : Stretch) → AreStretches source at from (ss ++ (s ∷ [])) → s.end ≤ length source
  within-last at from [] s all = all.0.within
  within-last at from (x ∷ ss) s all = within-last (at + size_of x) x.end ss s all.1

  size-last : (ss : List Stretch) (s : Stretch) → s.end ≤ length source → size (ss ++ (s ∷ [])) ≡ size ss + size_of s
  size-last ss s le =
      ap length (joined-append source ss (s ∷ [])) ∙ length-append (joined source ss) (joined source (s ∷ []))
      ∙ ap (λ n. size ss + n) (ap length (joined-one source s) ∙ slice-length source s.start s.end le)

  -- the bytes before the last stretch
  front-place : (at from : ℕ) (ss : List Stretch) (s : Stretch) (k : ℕ) → AreStretches source at from (ss ++ (s ∷ [])) → at ≤ k → k < at + size ss → place_in (ss ++ (s ∷ [])) k ≡ place_in ss k
  front-place at from [] s k all le lt = absurd (omega (arith, le, lt))
  front-place at from (x ∷ ss) s k all le lt = go (λ l m. front-place (at + size_of x) x.end ss s k all.1 l m) (nat_lt k (x.at + size_of x)) refl
    where
      go : (at + size_of x ≤ k → k < (at + size_of x) + size ss → place_in (ss ++ (s ∷ [])) k ≡ place_in ss k) → (z : Bool) → nat_lt k (x.at + size_of x) ≡ z
          → (if z then x.start + (k - x.at) else place_in (ss ++ (s ∷ [])) k) ≡ (if z then x.start + (k - x.at) else place_in ss k)
      go following true e = refl
      go following false e =
          let g = ltb-false k (x.at + size_of x) e in
          let p = all.0.place in
          let n = size-joined source x ss all.0.within in
          following (let q : at + size_of x ≤ k = omega (arith, g, p) in q) (let q : k < (at + size_of x) + size ss = omega (arith, lt, n) in q)

  -- the bytes of the last stretch
  last-place : (at from : ℕ) (ss : List Stretch) (s : Stretch) (k : ℕ) → AreStretches source at from (ss ++ (s ∷ [])) → at + size ss ≤ k → k < s.at + size_of s → place_in (ss ++ (s ∷ [])) k ≡ s.start + (k - s.at)
  last-place at from [] s k all le lt = by-less (λ p. p ≡ s.start + (k - s.at)) k (s.at + size_of s) (s.start + (k - s.at)) k (λ h. refl) (λ h. absurd (omega (arith, h, lt)))
  last-place at from (x ∷ ss) s k all le lt =
      let p = all.0.place in
      let n = size-joined source x ss all.0.within in
      by-less (λ q. q ≡ s.start + (k - s.at)) k (x.at + size_of x) (x.start + (k - x.at)) (place_in (ss ++ (s ∷ [])) k)
      (λ h. absurd (omega (arith, h, p, le, n)))
      (λ h. last-place (at + size_of x) x.end ss s k all.1 (let q : (at + size_of x) + size ss ≤ k = omega (arith, le, n) in q) lt)

  -- the last stretch is made longer
  pub grown-places : (ss : List Stretch) (s : Stretch) (start end : ℕ) → IsOpen source ss s → IsOpen source ss (record { at = s.at; start = s.start; end = end }) → s.end ≡ start → start ≤ end
      → PlacesMore source (ss ++ (s ∷ [])) start (end - start) (ss ++ (record { at = s.at; start = s.start; end = end } ∷ []))
  grown-places ss s start end h g is le = record { same = same; more = more }
    where
      t : Stretch
      t = record { at = s.at; start = s.start; end = end }

      before : s.at ≡ size ss
      before = let b = size-before 0 0 ss s h.all in omega (arith, b)

      all-size : size (ss ++ (s ∷ [])) ≡ size ss + size_of s
      all-size = size-last ss s (within-last 0 0 ss s h.all)

      ordered : s.start ≤ s.end
      ordered = ordered-open source ss s h

      same : (k : ℕ) → k < size (ss ++ (s ∷ [])) → place_in (ss ++ (t ∷ [])) k ≡ place_in (ss ++ (s ∷ [])) k
      same k lt = go (nat_lt k (size ss)) refl
        where
          go : (z : Bool) → nat_lt k (size ss) ≡ z → place_in (ss ++ (t ∷ [])) k ≡ place_in (ss ++ (s ∷ [])) k
          go true e =
              let l = ltb-true k (size ss) e in
              let b : k < 0 + size ss = omega (arith, l) in
              let z : 0 ≤ k = omega arith in
              front-place 0 0 ss t k g.all z b ∙ sym (front-place 0 0 ss s k h.all z b)
          go false e =
              let l = ltb-false k (size ss) e in
              let b = before in
              let n = all-size in
              let z : 0 + size ss ≤ k = omega (arith, l) in
              last-place 0 0 ss t k g.all z (let q : k < s.at + (end - s.start) = omega (arith, lt, b, n, is, le) in q) ∙ sym (last-place 0 0 ss s k h.all z (let q : k < s.at + size_of s = omega (arith, lt, b, n) in q))

      more : (k : ℕ) → k < end - start → place_in (ss ++ (t ∷ [])) (size (ss ++ (s ∷ [])) + k) ≡ start + k
      more k lt =
          let b = before in
          let n = all-size in
          let o = ordered in
          last-place 0 0 ss t (size (ss ++ (s ∷ [])) + k) g.all (let q : 0 + size ss ≤ size (ss ++ (s ∷ [])) + k = omega (arith, n) in q) (let q : size (ss ++ (s ∷ [])) + k < s.at + (end - s.start) = omega (arith, n, b, lt, is, o) in q)
          ∙ (let q : s.start + ((size (ss ++ (s ∷ [])) + k) - s.at) ≡ start + k = omega (arith, n, b, is, o) in q)

  -- a stretch is added after the last one
  pub added-places : (ss : List Stretch) (s t : Stretch) → IsOpen source (ss ++ (s ∷ [])) t → PlacesMore source (ss ++ (s ∷ [])) t.start (t.end - t.start) ((ss ++ (s ∷ [])) ++ (t ∷ []))
  added-places ss s t h = record {
    same = λ k lt. front-place 0 0 (ss ++ (s ∷ [])) t k h.all (let q : 0 ≤ k = omega arith in q) (let q : k < 0 + size (ss ++ (s ∷ [])) = omega (arith, lt) in q);
    more = λ k lt.
        let b = size-before 0 0 (ss ++ (s ∷ [])) t h.all in
        let n = size (ss ++ (s ∷ [])) in
        last-place 0 0 (ss ++ (s ∷ [])) t (n + k) h.all (let q : 0 + n ≤ n + k = omega arith in q) (let q : n + k < t.at + size_of t = omega (arith, b, lt) in q)
        ∙ (let q : t.start + ((n + k) - t.at) ≡ t.start + k = omega (arith, b) in q);
  }

  -- ## Lines

  -- the bytes of these stretches have the offsets of the lines that were pushed, and the bytes of the remaining lines follow
  pub record StandSoFar (lines rest : List LeafLine) (ss : List Stretch) : Type 0 where
    pub so_far : StandAs source lines ss
    pub following : (k : ℕ) → place_on lines (length (joined source ss) + k) ≡ place_on rest k

  none-joined : (place : ℕ) → joined source (record { at = 0; start = place; end = place } ∷ []) ≡ []
  none-joined place = joined-one source (record { at = 0; start = place; end = place }) ∙ slice-none source place

  -- before the first line
  pub record Begins (lines : List LeafLine) (ss : List Stretch) (place : ℕ) : Type 0 where
    pub are : AreLines source place lines
    pub now : IsOpen source ss (record { at = 0; start = place; end = place })
    pub text : joined source (ss ++ (record { at = 0; start = place; end = place } ∷ [])) ++ leaf_bytes source lines ≡ leaf_bytes source lines
    pub places : StandSoFar lines lines (ss ++ (record { at = 0; start = place; end = place } ∷ []))

  pub begin-lines : (lines : List LeafLine) (ss : List Stretch) → ss ≡ [] → 1 ≤ length lines → AreLines source 0 lines → Begins lines ss (get_or lines 0 (record { start = 0; content_end = 0; line_end = 0 })).start
  begin-lines [] ss none some h = absurd (omega (arith, some))
  begin-lines (line ∷ others) ss none some h =
      let lines : List LeafLine = line ∷ others in
      let n = none-joined line.start in
      let no : size (record { at = 0; start = line.start; end = line.start } ∷ []) ≡ 0 = ap length n in
      subst (λ (ss : List Stretch). Begins lines ss line.start) (sym none)
      (record {
        are = from_start source 0 line others h;
        now = first-open source 0 line others h;
        text = ap (λ b. b ++ leaf_bytes source lines) n;
        places = record { so_far = λ k lt. absurd (omega (arith, no, lt)); following = λ k. ap (place_on lines) (let q : size (record { at = 0; start = line.start; end = line.start } ∷ []) + k ≡ k = omega (arith, no) in q) };
      })

  -- one more line
  pub stand-more : (lines rest others : List LeafLine) (line : LeafLine) (old new : List Stretch) → rest ≡ line ∷ others → StandSoFar lines rest old → PlacesMore source old line.start (end_in_leaf line others - line.start) new
      → size new ≡ size old + (end_in_leaf line others - line.start) → StandSoFar lines others new
  stand-more lines rest others line old new is h more grows = record { so_far = so_far; following = following }
    where
      m : ℕ
      m = end_in_leaf line others - line.start

      at-line : (k : ℕ) → k < m → place_on (line ∷ others) k ≡ line.start + k
      at-line k lt = by-less (λ p. p ≡ line.start + k) k m (line.start + k) (place_on others (k - m)) (λ l. refl) (λ l. absurd (omega (arith, l, lt)))

      line_end-line : (k : ℕ) → place_on (line ∷ others) (m + k) ≡ place_on others k
      line_end-line k = by-less (λ p. p ≡ place_on others k) (m + k) m (line.start + (m + k)) (place_on others ((m + k) - m)) (λ l. absurd (omega (arith, l))) (λ l. ap (place_on others) (let q : (m + k) - m ≡ k = omega arith in q))

      so_far : StandAs source lines new
      so_far k lt = go (nat_lt k (size old)) refl
        where
          go : (z : Bool) → nat_lt k (size old) ≡ z → place_in new k ≡ place_on lines k
          go true e = let l = ltb-true k (size old) e in more.same k l ∙ h.so_far k l
          go false e =
              let l = ltb-false k (size old) e in
              let n = grows in
              let j : ℕ = k - size old in
              let less : j < m = omega (arith, l, n, lt) in
              let here : k ≡ size old + j = omega (arith, l) in
              ap (place_in new) here ∙ more.more j less ∙ sym (at-line j less) ∙ ap (λ r. place_on r j) (sym is) ∙ sym (h.following j) ∙ ap (place_on lines) (sym here)

      following : (k : ℕ) → place_on lines (size new + k) ≡ place_on others k
      following k =
          let n = grows in
          ap (place_on lines) (let q : size new + k ≡ size old + (m + k) = omega (arith, n) in q) ∙ h.following (m + k) ∙ ap (λ r. place_on r (m + k)) is ∙ line_end-line k
