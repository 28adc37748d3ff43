-- The places of a leaf's text are those of the grammar's leaf of the same stretches.
use Rattle.std.specs.Prelude.{◌-◌, drop, get_or, nat_lt, if◌then◌else◌}
use Rattle.std.proofs.Common.{◌≡◌, ℕ, suc, ◌+◌, ◌<◌, ◌≤◌, Bool, true, false, List, [], ◌∷◌, ◌++◌, length, refl, sym, ap, ◌∙◌, subst, arith, length-drop}
use Rattle.std.proofs.lemmas.Bool.{ltb-true, ltb-false, lt-ltb}
use Rattle.cmark_grammar.specs.LeafText as grammar
use Rattle.cmark_grammar.specs.LeafText.{place_with, InTurn}
use Rattle.cmark_grammar.specs.Readers.{Reader}
use Rattle.cmark_grammar.specs.Tokens.{slice}
use Rattle.cmark_inline_model.specs.LeafModel.{HaveLineEnds}
use Rattle.cmark_inline_model.specs.PlacedTokens.{AreLeafPlaces, HaveWholeEndings}
use Rattle.cmark_inline_model.specs.TextPlaces.{text_of as text_of_leaf, place_in as place_in_leaf}
use Rattle.cmark_inline_model.proofs.LeafCuts.{leaf-places as model-places}
use Rattle.cmark_inline_model.proofs.LeafSteps.{all_bytes, bytes-low}
use Rattle.cmark_leaf_text.specs.Reads.{IsRead, text_of, source_of, place_of}
use Rattle.cmark_leaf_text.specs.declared.leaf_text.LeafText.{LeafText}
use Rattle.cmark_leaf_text.specs.Stretches.{AreStretches, joined, place_in, size_of}
use Rattle.cmark_leaf_text.specs.declared.stretch.Stretch.{Stretch}
use Rattle.cmark_leaf_text.proofs.StretchSteps.{size-joined}
use Rattle.cmark_inline.specs.LeafViews.{shown_stretches, shown_leaf}

pub in-turn : (source : List ℕ) (at from : ℕ) (ss : List Stretch) → from ≤ length source → AreStretches source at from ss → InTurn from (shown_stretches ss) (length source)
in-turn source at from [] le h = le
in-turn source at from (s ∷ ss) le h = (h.0.following, h.0.ordered, in-turn source (at + size_of s) s.end ss h.0.within h.1)

pub sizes : (source : List ℕ) (at from : ℕ) (ss : List Stretch) → AreStretches source at from ss → length (joined source ss) ≡ grammar.size_of (shown_stretches ss)
sizes source at from [] h = refl
sizes source at from (s ∷ ss) h =
    let i = sizes source (at + size_of s) s.end ss h.1 in
    let n = size-joined source s ss h.0.within in
    omega (arith, i, n)

pub same-place : (source : List ℕ) (first from : ℕ) (ss : List Stretch) (k : ℕ) → AreStretches source first from ss → first ≤ k → k < first + length (joined source ss)
    → place_in ss k ≡ place_with ((first + length (joined source ss)) - k) (shown_stretches ss)
same-place source first from [] k h low lt = absurd (omega (arith, low, lt))
same-place source first from (s ∷ []) k h low lt =
    let n = size-joined source s [] h.0.within in
    let p = h.0.place in
    let o = h.0.ordered in
    ap (λ z. if z then s.start + (k - s.at) else k) (lt-ltb k (s.at + size_of s) (let q : k < s.at + size_of s = omega (arith, n, p, lt) in q))
    ∙ (let q : s.start + (k - s.at) ≡ s.end - ((first + length (joined source (s ∷ []))) - k) = omega (arith, n, p, o, low, lt) in q)
same-place source first from (s ∷ (t ∷ ss)) k h low lt = go (nat_lt k (s.at + size_of s)) refl (λ l m. same-place source (first + size_of s) s.end (t ∷ ss) k h.1 l m)
  where
    n : length (joined source (s ∷ (t ∷ ss))) ≡ size_of s + length (joined source (t ∷ ss))
    n = size-joined source s (t ∷ ss) h.0.within

    rest : length (joined source (t ∷ ss)) ≡ grammar.size_of (shown_stretches (t ∷ ss))
    rest = sizes source (first + size_of s) s.end (t ∷ ss) h.1

    left : ℕ
    left = (first + length (joined source (s ∷ (t ∷ ss)))) - k

    Goal : Bool → Bool → Type 0
    Goal y z = (if y then s.start + (k - s.at) else place_in (t ∷ ss) k) ≡ (if z then s.end - (left - grammar.size_of (shown_stretches (t ∷ ss))) else place_with left (shown_stretches (t ∷ ss)))

    go : (y : Bool) → nat_lt k (s.at + size_of s) ≡ y → (first + size_of s ≤ k → k < (first + size_of s) + length (joined source (t ∷ ss)) → place_in (t ∷ ss) k ≡ place_with (((first + size_of s) + length (joined source (t ∷ ss))) - k) (shown_stretches (t ∷ ss)))
        → Goal (nat_lt k (s.at + size_of s)) (nat_lt (grammar.size_of (shown_stretches (t ∷ ss))) left)
    go true e i =
        let l = ltb-true k (s.at + size_of s) e in
        let p = h.0.place in
        let o = h.0.ordered in
        let m = n in
        let r = rest in
        subst (λ y. Goal y (nat_lt (grammar.size_of (shown_stretches (t ∷ ss))) left)) (sym e)
        (subst (Goal true) (sym (lt-ltb (grammar.size_of (shown_stretches (t ∷ ss))) left (let q : grammar.size_of (shown_stretches (t ∷ ss)) < left = omega (arith, l, p, m, r) in q)))
        (let q : s.start + (k - s.at) ≡ s.end - (left - grammar.size_of (shown_stretches (t ∷ ss))) = omega (arith, l, p, o, m, r, low) in q))
    go false e i =
        let l = ltb-false k (s.at + size_of s) e in
        let p = h.0.place in
        let m = n in
        let r = rest in
        subst (λ y. Goal y (nat_lt (grammar.size_of (shown_stretches (t ∷ ss))) left)) (sym e)
        (subst (Goal false) (sym (not_less (grammar.size_of (shown_stretches (t ∷ ss))) left (let q : left ≤ grammar.size_of (shown_stretches (t ∷ ss)) = omega (arith, l, p, m, r) in q)))
        (i (let q : first + size_of s ≤ k = omega (arith, l, p) in q) (let q : k < (first + size_of s) + length (joined source (t ∷ ss)) = omega (arith, m, lt) in q)
        ∙ ap (λ x. place_with x (shown_stretches (t ∷ ss))) (let q : ((first + size_of s) + length (joined source (t ∷ ss))) - k ≡ left = omega (arith, m) in q)))
      where
        not_less : (a b : ℕ) → b ≤ a → nat_lt a b ≡ false
        not_less a b g = by (nat_lt a b) refl
          where
            by : (z : Bool) → nat_lt a b ≡ z → z ≡ false
            by true f = absurd (let v = ltb-true a b f in omega (arith, v, g))
            by false f = refl

-- the bytes of the stretches are equal
joined-is : (source : List ℕ) (ss : List Stretch) → all_bytes source (shown_stretches ss) ≡ joined source ss
joined-is source [] = refl
joined-is source (s ∷ ss) = ap (λ l. slice source s.start s.end ++ l) (joined-is source ss)

module _ (leaf : LeafText) (reader : Reader) (read : IsRead leaf) (source : reader.source ≡ source_of leaf) where
  stretches : AreStretches reader.source 0 0 leaf.stretches.items
  stretches = subst (λ s. AreStretches s 0 0 leaf.stretches.items) (sym source) read.stretches

  turn : InTurn 0 (shown_stretches leaf.stretches.items) (length reader.source)
  turn = in-turn reader.source 0 0 leaf.stretches.items (omega arith) stretches

  text-is : text_of_leaf reader (shown_leaf leaf) ≡ text_of leaf
  text-is = bytes-low reader.source 0 0 (shown_stretches leaf.stretches.items) (length reader.source) (omega arith) turn ∙ joined-is reader.source leaf.stretches.items ∙ ap (λ s. joined s leaf.stretches.items) source

  pub leaf-bytes : (k : ℕ) → k < length (text_of leaf) → place_of leaf k ≡ place_in_leaf reader (shown_leaf leaf) k
  leaf-bytes k lt =
      let n : length (joined reader.source leaf.stretches.items) ≡ length (text_of leaf) = ap (λ s. length (joined s leaf.stretches.items)) source in
      let d = length-drop k (text_of_leaf reader (shown_leaf leaf)) in
      let e = ap length text-is in
      same-place reader.source 0 0 leaf.stretches.items k stretches (omega arith) (omega (arith, n, lt))
      ∙ ap (λ m. place_with m (shown_stretches leaf.stretches.items)) (let q : (0 + length (joined reader.source leaf.stretches.items)) - k ≡ length (drop k (text_of_leaf reader (shown_leaf leaf))) = omega (arith, n, d, e) in q)

  pub leaf-places : HaveLineEnds reader.source (shown_leaf leaf).stretches → HaveWholeEndings (text_of leaf) (place_of leaf)
      → AreLeafPlaces reader (shown_leaf leaf) (text_of leaf) (place_in_leaf reader (shown_leaf leaf))
  leaf-places lines whole =
      subst (λ t. AreLeafPlaces reader (shown_leaf leaf) t (place_in_leaf reader (shown_leaf leaf))) text-is
      (model-places reader (shown_leaf leaf) (length reader.source) turn (omega arith) lines
      (λ k lt a b. (let n = ap length text-is in
      let x : k < length (text_of leaf) = omega (arith, n, lt) in
      let y : suc k < length (text_of leaf) = omega (arith, n, lt) in
      sym (leaf-bytes (suc k) y) ∙ whole k y (ap (λ t. get_or t k 0) (sym text-is) ∙ a) (ap (λ t. get_or t (suc k) 0) (sym text-is) ∙ b) ∙ ap suc (leaf-bytes k x))))
