-- Stretches that are pushed, and the offsets of bytes in them.
use Rattle.std.proofs.Common.{◌≡◌, ℕ, zero, suc, ◌+◌, ◌-◌, ◌≤◌, ◌<◌, Bool, true, false, List, [], ◌∷◌, ◌++◌, length, drop, take, get_or, refl, sym, ap, ◌∙◌, subst, arith, append_assoc, Some, None, ◌⊎◌, inl, inr, drop-drop, take-add, length-append}
use Rattle.std.specs.Prelude.{if◌then◌else◌, nat_lt, slice_get}
use Rattle.std.specs.Str.{IsCharBoundary}
use Rattle.std.proofs.lemmas.Bool.{lt-ltb, ltb-true, ltb-false}
use Rattle.std.proofs.lemmas.List.{append-nil, get_or-drop, get_or-take, get_or_append_left, get_or-append_right, length-take, length-drop}
use Rattle.std.proofs.lemmas.Option.{slice_get_within}
use Rattle.cmark_grammar.specs.Tokens.{slice}
use Rattle.cmark_leaf_text.specs.Stretches.{IsLine, AreLines, leaf_bytes, IsStretch, AreStretches, IsOpen, joined, end_in_leaf, place_in, size_of}
use Rattle.cmark_leaf_text.specs.Reads.{IsPart}
use Rattle.cmark_leaf_text.specs.declared.stretch.LeafLine.{LeafLine}
use Rattle.cmark_leaf_text.specs.declared.stretch.Stretch.{Stretch}

module _ (source : List ℕ) where
  slice-join : (a b c : ℕ) → a ≤ b → b ≤ c → slice source a b ++ slice source b c ≡ slice source a c
  slice-join a b c le lf =
      ap (λ xs. take (b - a) (drop a source) ++ take (c - b) xs) (ap (λ n. drop n source) (let s : b ≡ a + (b - a) = omega (arith, le) in s) ∙ sym (drop-drop (b - a) a source))
      ∙ sym (take-add (b - a) (c - b) (drop a source))
      ∙ ap (λ n. take n (drop a source)) (let s : (b - a) + (c - b) ≡ c - a = omega (arith, le, lf) in s)

  pub slice-length : (a b : ℕ) → b ≤ length source → length (slice source a b) ≡ b - a
  slice-length a b le =
      let t = length-take (b - a) (drop a source) in
      let d = length-drop a source in
      omega (arith, t, d, le)

  pub joined-append : (ss ts : List Stretch) → joined source (ss ++ ts) ≡ joined source ss ++ joined source ts
  joined-append [] ts = refl
  joined-append (s ∷ ss) ts = ap (λ l. slice source s.start s.end ++ l) (joined-append ss ts) ∙ sym (append_assoc (slice source s.start s.end) (joined source ss) (joined source ts))

  pub joined-one : (s : Stretch) → joined source (s ∷ []) ≡ slice source s.start s.end
  joined-one s = append-nil (slice source s.start s.end)

  -- the last stretch is made longer
  longer : Stretch → ℕ → Stretch
  longer s end = record { at = s.at; start = s.start; end = end }

  grows : (at from : ℕ) (ss : List Stretch) (s : Stretch) (end : ℕ) → AreStretches source at from (ss ++ (s ∷ []))
      → s.end ≤ end → end ≤ length source → IsCharBoundary source end → AreStretches source at from (ss ++ (record { at = s.at; start = s.start; end = end } ∷ []))
  grows at from [] s end all le within ends =
      let o = all.0.ordered in
      (record { place = all.0.place; following = all.0.following; ordered = let n : s.start ≤ end = omega (arith, o, le) in n; within = within; starts = all.0.starts; ends = ends }, tt)
  grows at from (x ∷ ss) s end all le within ends = (all.0, grows (at + size_of x) x.end ss s end all.1 le within ends)

  ordered-last : (at from : ℕ) (ss : List Stretch) (s : Stretch) → AreStretches source at from (ss ++ (s ∷ [])) → s.start ≤ s.end
  ordered-last at from [] s all = all.0.ordered
  ordered-last at from (x ∷ ss) s all = ordered-last (at + size_of x) x.end ss s all.1

  pub ordered-open : (ss : List Stretch) (s : Stretch) → IsOpen source ss s → s.start ≤ s.end
  ordered-open ss s h = ordered-last 0 0 ss s h.all

  pub grown : (ss : List Stretch) (s : Stretch) (end : ℕ) → IsOpen source ss s → s.end ≤ end → end ≤ length source → IsCharBoundary source end
      → IsOpen source ss (record { at = s.at; start = s.start; end = end })
  grown ss s end h le within ends = record { all = grows 0 0 ss s end h.all le within ends; place = h.place }

  pub grown-text : (ss : List Stretch) (s : Stretch) (end : ℕ) → s.start ≤ s.end → s.end ≤ end
      → joined source (ss ++ (record { at = s.at; start = s.start; end = end } ∷ [])) ≡ joined source (ss ++ (s ∷ [])) ++ slice source s.end end
  grown-text ss s end o le =
      let t : Stretch = record { at = s.at; start = s.start; end = end } in
      joined-append ss (t ∷ [])
      ∙ ap (λ l. joined source ss ++ l) (joined-one t ∙ sym (slice-join s.start s.end end o le) ∙ ap (λ l. l ++ slice source s.end end) (sym (joined-one s)))
      ∙ sym (append_assoc (joined source ss) (joined source (s ∷ [])) (slice source s.end end))
      ∙ ap (λ l. l ++ slice source s.end end) (sym (joined-append ss (s ∷ [])))

  -- a stretch is added after the last one
  adds : (at from : ℕ) (ss : List Stretch) (s t : Stretch) → AreStretches source at from (ss ++ (s ∷ []))
      → IsStretch source (s.at + size_of s) s.end t → AreStretches source at from ((ss ++ (s ∷ [])) ++ (t ∷ []))
  adds at from [] s t all new =
      let p = all.0.place in
      let q = new.place in
      (all.0, (record { place = let e : t.at ≡ at + size_of s = omega (arith, p, q) in e; following = new.following; ordered = new.ordered; within = new.within; starts = new.starts; ends = new.ends }, tt))
  adds at from (x ∷ ss) s t all new = (all.0, adds (at + size_of x) x.end ss s t all.1 new)

  pub added : (ss : List Stretch) (s t : Stretch) → IsOpen source ss s → IsStretch source (s.at + size_of s) s.end t → IsOpen source (ss ++ (s ∷ [])) t
  added ss s t h new =
      let o = ordered-open ss s h in
      let p = h.place in
      let q = new.place in
      let b = new.following in
      record { all = adds 0 0 ss s t h.all new; place = let e : t.at ≤ t.start = omega (arith, o, p, q, b) in e }

  pub added-text : (ss : List Stretch) (s t : Stretch) → joined source ((ss ++ (s ∷ [])) ++ (t ∷ [])) ≡ joined source (ss ++ (s ∷ [])) ++ slice source t.start t.end
  added-text ss s t = joined-append (ss ++ (s ∷ [])) (t ∷ []) ∙ ap (λ l. joined source (ss ++ (s ∷ [])) ++ l) (joined-one t)

  -- a stretch in the list
  pub stretch-there : (at from : ℕ) (ss : List Stretch) (i : ℕ) (s : Stretch) → AreStretches source at from ss → slice_get ss i ≡ Some s
      → (at ≤ s.at) × IsStretch source s.at from s
  stretch-there at from [] i s all e = absurd (none e)
    where
      none : None ≡ Some s → ⊥
      none q = let z : ⊥ = cc in z
  stretch-there at from (x ∷ ss) zero s all e = first e
    where
      first : Some x ≡ Some s → (at ≤ s.at) × IsStretch source s.at from s
      first q = subst (λ t. (at ≤ t.at) × IsStretch source t.at from t) (let z : x ≡ s = cc in z)
          (let p = all.0.place in ((let l : at ≤ x.at = omega (arith, p) in l), record { place = refl; following = all.0.following; ordered = all.0.ordered; within = all.0.within; starts = all.0.starts; ends = all.0.ends }))
  stretch-there at from (x ∷ ss) (suc i) s all e =
      let r = stretch-there (at + size_of x) x.end ss i s all.1 e in
      let b = r.1.following in
      let o = all.0.ordered in
      let f = all.0.following in
      let l = r.0 in
      ((let m : at ≤ s.at = omega (arith, l) in m), record { place = refl; following = (let m : from ≤ s.start = omega (arith, b, o, f) in m); ordered = r.1.ordered; within = r.1.within; starts = r.1.starts; ends = r.1.ends })

  pub size-joined : (x : Stretch) (ss : List Stretch) → x.end ≤ length source → length (joined source (x ∷ ss)) ≡ size_of x + length (joined source ss)
  size-joined x ss le = length-append (slice source x.start x.end) (joined source ss) ∙ ap (λ n. n + length (joined source ss)) (slice-length x.start x.end le)

  pub record Placed (ss : List Stretch) (at : ℕ) (s : Stretch) : Type 0 where
    pub inside : at < s.at + size_of s
    pub place : place_in ss at ≡ s.start + (at - s.at)

  pub finds : (from-at from : ℕ) (ss : List Stretch) (at i : ℕ) (s : Stretch) → AreStretches source from-at from ss → slice_get ss i ≡ Some s → s.at ≤ at
      → ((t : Stretch) → slice_get ss (suc i) ≡ Some t → at < t.at) → at < from-at + length (joined source ss) → Placed ss at s
  finds a f [] at i s all e le next lt = absurd (none e)
    where
      none : None ≡ Some s → ⊥
      none q = let z : ⊥ = cc in z
  finds a f (x ∷ ss) at zero s all e le next lt = first e
    where
      inside : (ts : List Stretch) → AreStretches source (a + size_of x) x.end ts → ((t : Stretch) → slice_get ts 0 ≡ Some t → at < t.at) → at < a + (size_of x + length (joined source ts)) → at < a + size_of x
      inside [] all-ts n l = omega (arith, l)
      inside (t ∷ ts) all-ts n l = let p = all-ts.0.place in let m = n t refl in omega (arith, p, m)

      first : Some x ≡ Some s → Placed (x ∷ ss) at s
      first q = subst (λ t. Placed (x ∷ ss) at t) (let z : x ≡ s = cc in z)
          (let p = all.0.place in
          let n = size-joined x ss all.0.within in
          let l : at < a + (size_of x + length (joined source ss)) = omega (arith, lt, n) in
          let m = inside ss all.1 next l in
          let k : at < x.at + size_of x = omega (arith, p, m) in
          record { inside = k; place = ap (λ b. if b then x.start + (at - x.at) else place_in ss at) (lt-ltb at (x.at + size_of x) k) })
  finds a f (x ∷ ss) at (suc i) s all e le next lt =
      let p = all.0.place in
      let t = stretch-there (a + size_of x) x.end ss i s all.1 e in
      let b = t.0 in
      let n = size-joined x ss all.0.within in
      let l : at < (a + size_of x) + length (joined source ss) = omega (arith, lt, n) in
      let r = finds (a + size_of x) x.end ss at i s all.1 e le next l in
      let k : x.at + size_of x ≤ at = omega (arith, p, b, le) in
      record { inside = r.inside; place = ap (λ z. if z then x.start + (at - x.at) else place_in ss at) (not-less at (x.at + size_of x) k) ∙ r.place }
    where
      not-less : (m n : ℕ) → n ≤ m → nat_lt m n ≡ false
      not-less m n g = go (nat_lt m n) refl
        where
          go : (z : Bool) → nat_lt m n ≡ z → z ≡ false
          go true h = let w = ltb-true m n h in absurd (omega (arith, w, g))
          go false h = refl

  -- the lines of a leaf
  pub from_start : (from : ℕ) (line : LeafLine) (lines : List LeafLine) → AreLines source from (line ∷ lines) → AreLines source line.start (line ∷ lines)
  from_start from line lines h = (record { following = let l : line.start ≤ line.start = omega arith in l; content = h.0.content; ending = h.0.ending; within = h.0.within; starts = h.0.starts; stops = h.0.stops; ends = h.0.ends }, h.1)

  pub first-open : (from : ℕ) (line : LeafLine) (lines : List LeafLine) → AreLines source from (line ∷ lines) → IsOpen source [] (record { at = 0; start = line.start; end = line.start })
  first-open from line lines h =
      let c = h.0.content in
      let e = h.0.ending in
      let w = h.0.within in
      record {
        all = (record { place = refl; following = (let l : 0 ≤ line.start = omega arith in l); ordered = (let l : line.start ≤ line.start = omega arith in l); within = (let l : line.start ≤ length source = omega (arith, c, e, w) in l); starts = h.0.starts; ends = h.0.starts }, tt);
        place = let l : 0 ≤ line.start = omega arith in l;
      }

  pub slice-none : (a : ℕ) → slice source a a ≡ []
  slice-none a = ap (λ n. take n (drop a source)) (let s : a - a ≡ 0 = omega arith in s)

  abbrev pub part_of : LeafLine → List LeafLine → LeafLine
  part_of line others = record { start = line.start; content_end = end_in_leaf line others; line_end = end_in_leaf line others }

  pub line-part : (from : ℕ) (line : LeafLine) (others : List LeafLine) → AreLines source from (line ∷ others) → IsLine source from (part_of line others)
  line-part from line [] h =
      let c = h.0.content in
      let e = h.0.ending in
      let w = h.0.within in
      record { following = h.0.following; content = c; ending = (let l : line.content_end ≤ line.content_end = omega arith in l); within = (let l : line.content_end ≤ length source = omega (arith, e, w) in l); starts = h.0.starts; stops = h.0.stops; ends = h.0.stops }
  line-part from line (next ∷ others) h =
      let c = h.0.content in
      let e = h.0.ending in
      record { following = h.0.following; content = (let l : line.start ≤ line.line_end = omega (arith, c, e) in l); ending = (let l : line.line_end ≤ line.line_end = omega arith in l); within = h.0.within; starts = h.0.starts; stops = h.0.ends; ends = h.0.ends }

  pub lines-following : (from : ℕ) (line : LeafLine) (others : List LeafLine) → AreLines source from (line ∷ others) → AreLines source (end_in_leaf line others) others
  lines-following from line [] h = tt
  lines-following from line (next ∷ others) h = h.1

  pub leaf-bytes-cons : (line : LeafLine) (others : List LeafLine) → leaf_bytes source (line ∷ others) ≡ slice source line.start (end_in_leaf line others) ++ leaf_bytes source others
  leaf-bytes-cons line [] = sym (append-nil (slice source line.start line.content_end))
  leaf-bytes-cons line (next ∷ others) = refl

  pub line-bytes : (before : List ℕ) (all lines : List LeafLine) (line : LeafLine) (others : List LeafLine) (after : List ℕ) → lines ≡ line ∷ others
      → before ++ leaf_bytes source lines ≡ leaf_bytes source all
      → after ≡ before ++ slice source line.start (end_in_leaf line others) → after ++ leaf_bytes source others ≡ leaf_bytes source all
  line-bytes before all lines line others after is told grows =
      ap (λ l. l ++ leaf_bytes source others) grows
      ∙ append_assoc before (slice source line.start (end_in_leaf line others)) (leaf_bytes source others)
      ∙ ap (λ l. before ++ l) (sym (leaf-bytes-cons line others))
      ∙ ap (λ l. before ++ leaf_bytes source l) (sym is)
      ∙ told

  -- the stretch that contains a byte
  pub first-begins : (ss : List Stretch) (s : Stretch) → AreStretches source 0 0 ss → slice_get ss 0 ≡ Some s → s.at ≡ 0
  first-begins [] s all e = absurd (none e)
    where
      none : None ≡ Some s → ⊥
      none q = let z : ⊥ = cc in z
  first-begins (x ∷ ss) s all e = ap (λ (t : Stretch). t.at) (sym (first e)) ∙ all.0.place
    where
      first : Some x ≡ Some s → x ≡ s
      first q = cc

  pub some-stretch : (ss : List Stretch) (at : ℕ) → at < length (joined source ss) → 0 < length ss
  some-stretch [] at lt = absurd (omega (arith, lt))
  some-stretch (x ∷ ss) at lt = omega arith

  pub nothing-line_end : (ss : List Stretch) (n : ℕ) (s : Stretch) → length ss ≤ n → slice_get ss n ≡ Some s → ⊥
  nothing-line_end ss n s le e = let w = slice_get_within ss n s e in absurd (omega (arith, le, w))

  pub found : (ss : List Stretch) (at i : ℕ) (s : Stretch) → AreStretches source 0 0 ss → slice_get ss i ≡ Some s → s.at ≤ at
      → ((t : Stretch) → slice_get ss (i + 1) ≡ Some t → at < t.at) → at < length (joined source ss) → Placed ss at s
  found ss at i s all e le next lt = finds 0 0 ss at i s all e le (λ t h. next t (ap (slice_get ss) (let n : i + 1 ≡ suc i = omega arith in n) ∙ h)) (let n : at < 0 + length (joined source ss) = omega (arith, lt) in n)

  -- bytes at their offsets
  pub byte-in-slice : (a b k : ℕ) → k < b - a → b ≤ length source → get_or (slice source a b) k 0 ≡ get_or source (a + k) 0
  byte-in-slice a b k lt le = get_or-take (b - a) (drop a source) k 0 lt ∙ get_or-drop a source k 0

  pub record PlacedByte (ss : List Stretch) (first at : ℕ) : Type 0 where
    pub byte : get_or (joined source ss) (at - first) 0 ≡ get_or source (place_in ss at) 0
    pub within : place_in ss at < length source
    -- the next byte of the text is the next byte of the source, or a stretch ends here
    pub goes_on : ((place_in ss (at + 1) ≡ place_in ss at + 1) × (at + 1 < first + length (joined source ss))) ⊎ IsCharBoundary source (place_in ss at + 1)

  pub placed : (first from : ℕ) (ss : List Stretch) (at : ℕ) → AreStretches source first from ss → first ≤ at → at < first + length (joined source ss) → PlacedByte ss first at
  placed first from [] at all le lt = absurd (omega (arith, le, lt))
  placed first from (x ∷ ss) at all le lt = go (λ l m. placed (first + size_of x) x.end ss at all.1 l m) (nat_lt at (x.at + size_of x)) refl
    where
      p : x.at ≡ first
      p = all.0.place

      o : x.start ≤ x.end
      o = all.0.ordered

      w : x.end ≤ length source
      w = all.0.within

      n : length (joined source (x ∷ ss)) ≡ size_of x + length (joined source ss)
      n = size-joined x ss w

      m : length (slice source x.start x.end) ≡ x.end - x.start
      m = slice-length x.start x.end w

      rest-at : ℕ → ℕ
      rest-at k = if nat_lt k (x.at + size_of x) then x.start + (k - x.at) else place_in ss k

      here : (k : ℕ) → k < x.at + size_of x → place_in (x ∷ ss) k ≡ x.start + (k - x.at)
      here k l = ap (λ b. if b then x.start + (k - x.at) else place_in ss k) (lt-ltb k (x.at + size_of x) l)

      there : (k : ℕ) → nat_lt k (x.at + size_of x) ≡ false → place_in (x ∷ ss) k ≡ place_in ss k
      there k e = ap (λ b. if b then x.start + (k - x.at) else place_in ss k) e

      not-less : (a b : ℕ) → b ≤ a → nat_lt a b ≡ false
      not-less a b g = by (nat_lt a b) refl
        where
          by : (z : Bool) → nat_lt a b ≡ z → z ≡ false
          by true h = let v = ltb-true a b h in absurd (omega (arith, v, g))
          by false h = refl

      next : (l : at < x.at + size_of x) → (z : Bool) → nat_lt (at + 1) (x.at + size_of x) ≡ z → ((place_in (x ∷ ss) (at + 1) ≡ place_in (x ∷ ss) at + 1) × (at + 1 < first + length (joined source (x ∷ ss)))) ⊎ IsCharBoundary source (place_in (x ∷ ss) at + 1)
      next l true e = inl (here (at + 1) (ltb-true (at + 1) (x.at + size_of x) e) ∙ (let q : x.start + (at + 1 - x.at) ≡ (x.start + (at - x.at)) + 1 = omega (arith, p, le) in q) ∙ ap (λ k. k + 1) (sym (here at l)), (let v = ltb-true (at + 1) (x.at + size_of x) e in let q : at + 1 < first + length (joined source (x ∷ ss)) = omega (arith, v, p, n) in q))
      next l false e =
          let g = ltb-false (at + 1) (x.at + size_of x) e in
          inr (subst (IsCharBoundary source) ((let q : x.end ≡ (x.start + (at - x.at)) + 1 = omega (arith, p, le, l, g, o) in q) ∙ ap (λ k. k + 1) (sym (here at l))) all.0.ends)

      go : (first + size_of x ≤ at → at < (first + size_of x) + length (joined source ss) → PlacedByte ss (first + size_of x) at) → (z : Bool) → nat_lt at (x.at + size_of x) ≡ z → PlacedByte (x ∷ ss) first at
      go following true e =
          let l = ltb-true at (x.at + size_of x) e in
          record {
            byte = get_or_append_left (slice source x.start x.end) (joined source ss) 0 (at - first) (let q : at - first < length (slice source x.start x.end) = omega (arith, m, p, l, le) in q)
                ∙ byte-in-slice x.start x.end (at - first) (let q : at - first < x.end - x.start = omega (arith, p, l, le) in q) w
                ∙ ap (λ k. get_or source k 0) ((let q : x.start + (at - first) ≡ x.start + (at - x.at) = omega (arith, p) in q) ∙ sym (here at l));
            within = subst (λ k. k < length source) (sym (here at l)) (let q : x.start + (at - x.at) < length source = omega (arith, w, l, p, le, o) in q);
            goes_on = next l (nat_lt (at + 1) (x.at + size_of x)) refl;
          }
      go following false e =
          let g = ltb-false at (x.at + size_of x) e in
          let r = following (let q : first + size_of x ≤ at = omega (arith, p, g) in q) (let q : at < (first + size_of x) + length (joined source ss) = omega (arith, lt, n) in q) in
          let same = there at e in
          let same-next = there (at + 1) (not-less (at + 1) (x.at + size_of x) (let q : x.at + size_of x ≤ at + 1 = omega (arith, g) in q)) in
          record {
            byte = get_or-append_right (slice source x.start x.end) (joined source ss) (x.end - x.start) (at - first) 0 m (let q : x.end - x.start ≤ at - first = omega (arith, p, g) in q)
                ∙ ap (λ k. get_or (joined source ss) k 0) (let q : (at - first) - (x.end - x.start) ≡ at - (first + size_of x) = omega (arith, p, g) in q)
                ∙ r.byte
                ∙ ap (λ k. get_or source k 0) (sym same);
            within = subst (λ k. k < length source) (sym same) r.within;
            goes_on = either r.goes_on same same-next;
          }
        where
          either : ((place_in ss (at + 1) ≡ place_in ss at + 1) × (at + 1 < (first + size_of x) + length (joined source ss))) ⊎ IsCharBoundary source (place_in ss at + 1) → place_in (x ∷ ss) at ≡ place_in ss at → place_in (x ∷ ss) (at + 1) ≡ place_in ss (at + 1)
              → ((place_in (x ∷ ss) (at + 1) ≡ place_in (x ∷ ss) at + 1) × (at + 1 < first + length (joined source (x ∷ ss)))) ⊎ IsCharBoundary source (place_in (x ∷ ss) at + 1)
          either (inl h) a b = inl (b ∙ h.0 ∙ ap (λ k. k + 1) (sym a), (let v = h.1 in let q : at + 1 < first + length (joined source (x ∷ ss)) = omega (arith, v, n) in q))
          either (inr h) a b = inr (subst (λ k. IsCharBoundary source (k + 1)) (sym a) h)

  place-low : (first from : ℕ) (ss : List Stretch) (at : ℕ) → AreStretches source first from ss → first ≤ at → at < first + length (joined source ss) → from ≤ place_in ss at
  place-low first from [] at all le lt = absurd (omega (arith, le, lt))
  place-low first from (x ∷ ss) at all le lt = go (λ l m. place-low (first + size_of x) x.end ss at all.1 l m) (nat_lt at (x.at + size_of x)) refl
    where
      go : (first + size_of x ≤ at → at < (first + size_of x) + length (joined source ss) → x.end ≤ place_in ss at) → (z : Bool) → nat_lt at (x.at + size_of x) ≡ z → from ≤ (if z then x.start + (at - x.at) else place_in ss at)
      go following true e = let b = all.0.following in omega (arith, b)
      go following false e =
          let g = ltb-false at (x.at + size_of x) e in
          let p = all.0.place in
          let b = all.0.following in
          let o = all.0.ordered in
          let n = size-joined x ss all.0.within in
          let r = following (let q : first + size_of x ≤ at = omega (arith, p, g) in q) (let q : at < (first + size_of x) + length (joined source ss) = omega (arith, lt, n) in q) in
          omega (arith, b, o, r)

  pub place-order : (first from : ℕ) (ss : List Stretch) (a b : ℕ) → AreStretches source first from ss → first ≤ a → a ≤ b → b < first + length (joined source ss) → place_in ss a ≤ place_in ss b
  place-order first from [] a b all le ab lt = absurd (omega (arith, le, ab, lt))
  place-order first from (x ∷ ss) a b all le ab lt = go (λ l m. place-order (first + size_of x) x.end ss a b all.1 l ab m) (nat_lt a (x.at + size_of x)) (nat_lt b (x.at + size_of x)) refl refl
    where
      p : x.at ≡ first
      p = all.0.place

      n : length (joined source (x ∷ ss)) ≡ size_of x + length (joined source ss)
      n = size-joined x ss all.0.within

      go : (first + size_of x ≤ a → b < (first + size_of x) + length (joined source ss) → place_in ss a ≤ place_in ss b) → (y z : Bool) → nat_lt a (x.at + size_of x) ≡ y → nat_lt b (x.at + size_of x) ≡ z → (if y then x.start + (a - x.at) else place_in ss a) ≤ (if z then x.start + (b - x.at) else place_in ss b)
      go following true true d e = omega (arith, ab)
      go following true false d e =
          let l = ltb-true a (x.at + size_of x) d in
          let g = ltb-false b (x.at + size_of x) e in
          let o = all.0.ordered in
          let r = place-low (first + size_of x) x.end ss b all.1 (let q : first + size_of x ≤ b = omega (arith, p, g) in q) (let q : b < (first + size_of x) + length (joined source ss) = omega (arith, lt, n) in q) in
          omega (arith, l, r, o, p, le)
      go following false true d e =
          let g = ltb-false a (x.at + size_of x) d in
          let l = ltb-true b (x.at + size_of x) e in
          absurd (omega (arith, g, l, ab))
      go following false false d e =
          let g = ltb-false a (x.at + size_of x) d in
          following (let q : first + size_of x ≤ a = omega (arith, p, g) in q) (let q : b < (first + size_of x) + length (joined source ss) = omega (arith, lt, n) in q)

  -- a part of the text is a part of the source
  same-edge : (text : List ℕ) (at place : ℕ) → IsCharBoundary text at → at < length text → place < length source → get_or text at 0 ≡ get_or source place 0 → IsCharBoundary source place
  same-edge text at place h lt within e = (
    (let q : place ≤ length source = omega (arith, within) in q),
    (λ l big. subst (λ b. 192 ≤ b) e (h.1 lt (subst (λ b. 128 ≤ b) (sym e) big))),
  )

  pub part-there : (ss : List Stretch) (from to : ℕ) → AreStretches source 0 0 ss → IsPart (joined source ss) from to → IsPart source (place_in ss from) (place_in ss (to - 1) + 1)
  part-there ss from to all h =
      let some = h.some in
      let within = h.within in
      let p = placed 0 0 ss from all (let q : 0 ≤ from = omega arith in q) (let q : from < 0 + length (joined source ss) = omega (arith, some, within) in q) in
      let q = placed 0 0 ss (to - 1) all (let q : 0 ≤ to - 1 = omega arith in q) (let q : to - 1 < 0 + length (joined source ss) = omega (arith, some, within) in q) in
      let o = place-order 0 0 ss from (to - 1) all (let q : 0 ≤ from = omega arith in q) (let q : from ≤ to - 1 = omega (arith, some) in q) (let q : to - 1 < 0 + length (joined source ss) = omega (arith, some, within) in q) in
      let w = q.within in
      record {
        some = (let l : place_in ss from < place_in ss (to - 1) + 1 = omega (arith, o) in l);
        within = (let l : place_in ss (to - 1) + 1 ≤ length source = omega (arith, w) in l);
        starts = same-edge (joined source ss) from (place_in ss from) h.starts (let l : from < length (joined source ss) = omega (arith, some, within) in l) p.within
            (ap (λ k. get_or (joined source ss) k 0) (let l : from ≡ from - 0 = omega arith in l) ∙ p.byte);
        ends = ending q.goes_on;
      }
    where
      ending : ((place_in ss (to - 1 + 1) ≡ place_in ss (to - 1) + 1) × (to - 1 + 1 < 0 + length (joined source ss))) ⊎ IsCharBoundary source (place_in ss (to - 1) + 1) → IsCharBoundary source (place_in ss (to - 1) + 1)
      ending (inr e) = e
      ending (inl e) =
          let some = h.some in
          let lt = e.1 in
          let n : to - 1 + 1 ≡ to = omega (arith, some) in
          let r = placed 0 0 ss to all (let q : 0 ≤ to = omega arith in q) (let q : to < 0 + length (joined source ss) = omega (arith, some, lt) in q) in
          subst (IsCharBoundary source) (ap (place_in ss) (sym n) ∙ e.0)
          (same-edge (joined source ss) to (place_in ss to) h.ends (let q : to < length (joined source ss) = omega (arith, some, lt) in q) r.within
          (ap (λ k. get_or (joined source ss) k 0) (let l : to ≡ to - 0 = omega arith in l) ∙ r.byte))
