-- The places where a leaf begins and ends.
use Rattle.std.specs.Prelude.{max, if◌then◌else◌}
use Rattle.std.proofs.Common.{◌≡◌, ℕ, suc, ◌-◌, ◌<◌, ◌≤◌, List, [], ◌∷◌, length, drop, refl, sym, ap, ◌∙◌, arith, length-append, length-drop}
use Rattle.std.proofs.lemmas.Bool.{lt-ltb, le-ltb}
use Rattle.std.proofs.lemmas.List.{length-take-le}
use Rattle.cmark_grammar.specs.LeafText.{InTurn, Leaf, Stretch, begin_of, bytes_from, place_with, size_of}
use Rattle.cmark_grammar.specs.Readers.{Reader}
use Rattle.cmark_grammar.specs.Tokens.{slice}
use Rattle.cmark_inline_model.specs.LeafModel.{HaveLineEnds}
use Rattle.cmark_inline_model.specs.TextPlaces.{place_in, text_of}

whole-size : (source : List ℕ) (start : ℕ) (st : List Stretch) → InTurn start st (length source) → length (bytes_from source st 0) ≡ size_of st
whole-size source start [] h = refl
whole-size source start (s ∷ more) h =
    let n = length-append (slice source (max 0 s.start) s.end) (bytes_from source more 0) in
    let i = whole-size source s.end more h.2 in
    let b = h.1 in
    let within : s.end ≤ length source = ends s.end more h.2 in
    let d = length-drop (max 0 s.start) source in
    let t = length-take-le (s.end - max 0 s.start) (drop (max 0 s.start) source) (omega (arith, d, within)) in
    omega (arith, n, i, t, b)
  where
    ends : (from : ℕ) (st : List Stretch) → InTurn from st (length source) → from ≤ length source
    ends from [] k = k
    ends from (t ∷ rest) k = let a = k.0 in let b = k.1 in let c = ends t.end rest k.2 in omega (arith, a, b, c)

begin-with : (source : List ℕ) (st : List Stretch) → HaveLineEnds source st → place_with (size_of st) st ≡ begin_of st
begin-with source [] h = refl
begin-with source (s ∷ []) h = let lt = h.0 in omega (arith, lt)
begin-with source (s ∷ (t ∷ more)) h =
    let lt = h.0 in
    ap (λ z. if z then s.end - (size_of (s ∷ (t ∷ more)) - size_of (t ∷ more)) else place_with (size_of (s ∷ (t ∷ more))) (t ∷ more)) (lt-ltb (size_of (t ∷ more)) (size_of (s ∷ (t ∷ more))) (omega (arith, lt)))
    ∙ (let q : s.end - (size_of (s ∷ (t ∷ more)) - size_of (t ∷ more)) ≡ s.start = omega (arith, lt) in q)

last-with : (source : List ℕ) (s : Stretch) (more : List Stretch) → HaveLineEnds source (s ∷ more) → place_with 0 (s ∷ more) ≡ suc (place_with 1 (s ∷ more))
last-with source s [] h = let lt = h.0 in omega (arith, lt)
last-with source s (t ∷ more) h =
    let lt = h.2.0 in
    ap (λ z. if z then s.end - (0 - size_of (t ∷ more)) else place_with 0 (t ∷ more)) (le-ltb (size_of (t ∷ more)) 0 (omega arith))
    ∙ last-with source t more h.2
    ∙ ap suc (sym (ap (λ z. if z then s.end - (1 - size_of (t ∷ more)) else place_with 1 (t ∷ more)) (le-ltb (size_of (t ∷ more)) 1 (omega (arith, lt)))))

module _ (reader : Reader) (leaf : Leaf) where
  pub first-place : InTurn 0 leaf.stretches (length reader.source) → HaveLineEnds reader.source leaf.stretches → begin_of leaf.stretches ≡ place_in reader leaf 0
  first-place turn lines = sym (ap (λ n. place_with n leaf.stretches) (whole-size reader.source 0 leaf.stretches turn) ∙ begin-with reader.source leaf.stretches lines)

  pub last-place : HaveLineEnds reader.source leaf.stretches → 0 < length (text_of reader leaf) → place_in reader leaf (length (text_of reader leaf)) ≡ suc (place_in reader leaf (length (text_of reader leaf) - 1))
  last-place lines some =
      let text : List ℕ = text_of reader leaf in
      let a = length-drop (length text) text in
      let b = length-drop (length text - 1) text in
      ap (λ n. place_with n leaf.stretches) (let q : length (drop (length text) text) ≡ 0 = omega (arith, a) in q) ∙ go leaf.stretches lines some
      ∙ ap (λ n. suc (place_with n leaf.stretches)) (let q : 1 ≡ length (drop (length text - 1) text) = omega (arith, b, some) in q)
    where
      go : (st : List Stretch) → HaveLineEnds reader.source st → 0 < length (bytes_from reader.source st 0) → place_with 0 st ≡ suc (place_with 1 st)
      go [] h lt = absurd (omega (arith, lt))
      go (s ∷ more) h lt = last-with reader.source s more h
