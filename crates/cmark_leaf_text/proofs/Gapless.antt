-- A part of a text that is without a gap in the source.
use Rattle.std.proofs.Common.{◌≡◌, ℕ, ◌+◌, ◌-◌, ◌≤◌, ◌<◌, Bool, true, false, List, [], ◌∷◌, length, get_or, refl, sym, ap, ◌∙◌, arith}
use Rattle.std.specs.Prelude.{if◌then◌else◌, nat_lt}
use Rattle.std.proofs.lemmas.Bool.{ltb-true, ltb-false}
use Rattle.std.proofs.lemmas.Grind.{same_number_lists}
use Rattle.cmark_grammar.specs.Tokens.{slice}
use Rattle.cmark_leaf_text.specs.Reads.{IsPart}
use Rattle.cmark_leaf_text.specs.Stretches.{AreStretches, joined, place_in, size_of}
use Rattle.cmark_leaf_text.specs.declared.stretch.Stretch.{Stretch}
use Rattle.cmark_leaf_text.proofs.StretchSteps.{slice-length, byte-in-slice, size-joined, placed, part-there}

module _ (source : List ℕ) where
  -- a byte is at least as far from the start in the source as in the text
  place-far : (first from : ℕ) (ss : List Stretch) (at : ℕ) → AreStretches source first from ss → first ≤ at → at < first + length (joined source ss) → from + (at - first) ≤ place_in ss at
  place-far first from [] at all le lt = absurd (omega (arith, le, lt))
  place-far first from (x ∷ ss) at all le lt = go (λ l m. place-far (first + size_of x) x.end ss at all.1 l m) (nat_lt at (x.at + size_of x)) refl
    where
      go : (first + size_of x ≤ at → at < (first + size_of x) + length (joined source ss) → x.end + (at - (first + size_of x)) ≤ place_in ss at) → (z : Bool) → nat_lt at (x.at + size_of x) ≡ z → from + (at - first) ≤ (if z then x.start + (at - x.at) else place_in ss at)
      go following true e = let b = all.0.following in let p = all.0.place in omega (arith, b, p)
      go following false e =
          let g = ltb-false at (x.at + size_of x) e in
          let p = all.0.place in
          let b = all.0.following in
          let o = all.0.ordered in
          let n = size-joined source x ss all.0.within in
          let r = following (let q : first + size_of x ≤ at = omega (arith, p, g) in q) (let q : at < (first + size_of x) + length (joined source ss) = omega (arith, lt, n) in q) in
          omega (arith, b, o, r, p, g)

  -- two bytes are at least as far apart in the source as in the text
  place-apart : (first from : ℕ) (ss : List Stretch) (a b : ℕ) → AreStretches source first from ss → first ≤ a → a ≤ b → b < first + length (joined source ss) → place_in ss a + (b - a) ≤ place_in ss b
  place-apart first from [] a b all le ab lt = absurd (omega (arith, le, ab, lt))
  place-apart first from (x ∷ ss) a b all le ab lt = go (λ l m. place-apart (first + size_of x) x.end ss a b all.1 l ab m) (nat_lt a (x.at + size_of x)) (nat_lt b (x.at + size_of x)) refl refl
    where
      p : x.at ≡ first
      p = all.0.place

      n : length (joined source (x ∷ ss)) ≡ size_of x + length (joined source ss)
      n = size-joined source x ss all.0.within

      go : (first + size_of x ≤ a → b < (first + size_of x) + length (joined source ss) → place_in ss a + (b - a) ≤ place_in ss b) → (y z : Bool) → nat_lt a (x.at + size_of x) ≡ y → nat_lt b (x.at + size_of x) ≡ z → (if y then x.start + (a - x.at) else place_in ss a) + (b - a) ≤ (if z then x.start + (b - x.at) else place_in ss b)
      go following true true d e = omega (arith, ab, p, le)
      go following true false d e =
          let l = ltb-true a (x.at + size_of x) d in
          let g = ltb-false b (x.at + size_of x) e in
          let o = all.0.ordered in
          let r = place-far (first + size_of x) x.end ss b all.1 (let q : first + size_of x ≤ b = omega (arith, p, g) in q) (let q : b < (first + size_of x) + length (joined source ss) = omega (arith, lt, n) in q) in
          omega (arith, l, g, r, o, p, le, ab)
      go following false true d e =
          let g = ltb-false a (x.at + size_of x) d in
          let l = ltb-true b (x.at + size_of x) e in
          absurd (omega (arith, g, l, ab))
      go following false false d e =
          let g = ltb-false a (x.at + size_of x) d in
          following (let q : first + size_of x ≤ a = omega (arith, p, g) in q) (let q : b < (first + size_of x) + length (joined source ss) = omega (arith, lt, n) in q)

  -- if the ends are as far apart in the source as in the text, the bytes are the same
  pub same-bytes : (ss : List Stretch) (from to : ℕ) → AreStretches source 0 0 ss → IsPart (joined source ss) from to
      → (place_in ss (to - 1) + 1) - place_in ss from ≡ to - from
      → slice source (place_in ss from) (place_in ss (to - 1) + 1) ≡ slice (joined source ss) from to
  same-bytes ss from to all part wide = same_number_lists there here sizes bytes
    where
      text : List ℕ
      text = joined source ss

      first : ℕ
      first = place_in ss from

      last : ℕ
      last = place_in ss (to - 1) + 1

      there : List ℕ
      there = slice source first last

      here : List ℕ
      here = slice text from to

      inside : IsPart source first last
      inside = part-there source ss from to all part

      there-size : length there ≡ to - from
      there-size = slice-length source first last inside.within ∙ wide

      here-size : length here ≡ to - from
      here-size = slice-length text from to part.within

      sizes : length there ≡ length here
      sizes = there-size ∙ sym here-size

      place : (k : ℕ) → k < to - from → place_in ss (from + k) ≡ first + k
      place k lt =
          let some = part.some in
          let within = part.within in
          let s = inside.some in
          let a = place-apart 0 0 ss from (from + k) all (let q : 0 ≤ from = omega arith in q) (let q : from ≤ from + k = omega arith in q) (let q : from + k < 0 + length text = omega (arith, lt, within) in q) in
          let b = place-apart 0 0 ss (from + k) (to - 1) all (let q : 0 ≤ from + k = omega arith in q) (let q : from + k ≤ to - 1 = omega (arith, lt) in q) (let q : to - 1 < 0 + length text = omega (arith, some, within) in q) in
          omega (arith, a, b, lt, wide, some, s)

      bytes : (k : ℕ) → k < length there → get_or there k 0 ≡ get_or here k 0
      bytes k lt =
          let w = part.within in
          let some = part.some in
          let l : k < to - from = omega (arith, lt, there-size) in
          let m : k < last - first = omega (arith, l, wide) in
          let b = placed source 0 0 ss (from + k) all (let q : 0 ≤ from + k = omega arith in q) (let q : from + k < 0 + length text = omega (arith, l, w) in q) in
          byte-in-slice source first last k m inside.within
          ∙ ap (λ i. get_or source i 0) (sym (place k l))
          ∙ sym b.byte
          ∙ ap (λ i. get_or text i 0) (let q : from + k - 0 ≡ from + k = omega arith in q)
          ∙ sym (byte-in-slice text from to k l part.within)
