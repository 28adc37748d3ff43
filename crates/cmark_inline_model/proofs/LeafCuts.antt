-- An offset of the source divides the bytes of a leaf into those before it and those from there on.
use Rattle.std.specs.Prelude.{◌-◌, max, min, get_or, drop, take}
use Rattle.std.proofs.Common.{◌≡◌, ◌⊎◌, inl, inr, ℕ, suc, ◌+◌, ◌<◌, ◌≤◌, List, [], ◌∷◌, ◌++◌, length, refl, sym, ap, ◌∙◌, subst, arith, length-drop, drop-drop, append_assoc}
use Rattle.std.proofs.Math.Seq.{drop-cons, drop-append_seam, take-append_seam}
use Rattle.std.proofs.lemmas.Bool.{ltb-true, ltb-false}
use Rattle.std.proofs.lemmas.List.{length-append, length-take, take-append-drop, take-take, drop-take, append-nil}
use Rattle.cmark_grammar.specs.InlineTokens.{from, before}
use Rattle.cmark_grammar.specs.LeafText.{Leaf, Stretch, bytes_from, bytes_before, size_of, place_with, end_of, InTurn}
use Rattle.cmark_grammar.specs.Readers.{Reader}
use Rattle.cmark_grammar.specs.Tokens.{slice}
use Rattle.cmark_inline_model.specs.LeafModel.{HaveLineEnds}
use Rattle.cmark_inline_model.specs.PlacedTokens.{IsParted, AreLeafPlaces, HaveWholeEndings}
use Rattle.cmark_inline_model.specs.TextPlaces.{ArePlaces, text_of, place_in}
use Rattle.cmark_inline_model.proofs.LeafPlaces.{place-from, none-following}
use Rattle.cmark_inline_model.proofs.LeafSteps.{all_bytes, all-size, at-next, bytes-low}
use Rattle.cmark_inline_model.proofs.TextPlaces.{text-places}

le_or : (a b : ℕ) → (a ≤ b) ⊎ (b < a)
le_or a b = grind (arith, ltb-true, ltb-false)

slice_none : (source : List ℕ) (start end : ℕ) → end ≤ start → slice source start end ≡ []
slice_none source start end h = grind (arith, length-take)

-- two slices that touch are one
slice_joined : (source : List ℕ) (start mid end : ℕ) → start ≤ mid → mid ≤ end → slice source start mid ++ slice source mid end ≡ slice source start end
slice_joined source start mid end h k =
    let n = mid - start in
    let whole : List ℕ = slice source start end in
    let size : end - start ≡ n + (end - mid) = omega arith in
    let front : take n whole ≡ slice source start mid = taken n (end - mid) (end - start) size in
    let following : drop n whole ≡ slice source mid end =
    ap (λ m. drop n (take m (drop start source))) size ∙ drop-take n (end - mid) (drop start source) ∙ ap (take (end - mid)) (dropped n) ∙ ap (λ m. take (end - mid) (drop m source)) (let q : start + n ≡ mid = omega arith in q) in
    ap (λ l. l ++ slice source mid end) (sym front) ∙ ap (λ l. take n whole ++ l) (sym following) ∙ take-append-drop n whole
  where
    taken : (n m size : ℕ) → size ≡ n + m → take n (take size (drop start source)) ≡ take n (drop start source)
    taken n m size e = take-take n size (drop start source) (omega arith)

    dropped : (n : ℕ) → drop n (drop start source) ≡ drop (start + n) source
    dropped n = drop-drop n start source

-- after the offset no byte of earlier stretches is left, and before it no byte of later ones
none_before : (source : List ℕ) (low : ℕ) (st : List Stretch) (size at : ℕ) → at ≤ low → InTurn low st size → bytes_before source st at ≡ []
none_before source low [] size at h k = refl
none_before source low (s ∷ more) size at h k = cc (slice_none source s.start (min at s.end) (omega arith), none_before source s.end more size at (omega arith) k.2)

cut : (source : List ℕ) (low : ℕ) (st : List Stretch) (size at : ℕ) → InTurn low st size → bytes_before source st at ++ bytes_from source st at ≡ all_bytes source st
cut source low [] size at h = refl
cut source low (s ∷ more) size at h = go (le_or s.end at) (cut source s.end more size at h.2)
  where
    go : (s.end ≤ at) ⊎ (at < s.end) → bytes_before source more at ++ bytes_from source more at ≡ all_bytes source more → bytes_before source (s ∷ more) at ++ bytes_from source (s ∷ more) at ≡ all_bytes source (s ∷ more)
    go (inl e) i = grind (arith, slice_none, append_assoc)
    go (inr e) i = grind (arith, none_before, append-nil, append_assoc, front, le_or, bytes-low)
      where
        front : (at ≤ s.start) ⊎ (s.start < at) → slice source s.start at ++ slice source (max at s.start) s.end ≡ slice source s.start s.end
        front h = grind (arith, slice_none, slice_joined)

-- further on fewer bytes are left
fewer : (source : List ℕ) (st : List Stretch) (a b : ℕ) → a ≤ b → length (bytes_from source st b) ≤ length (bytes_from source st a)
fewer source [] a b h = omega arith
fewer source (s ∷ more) a b h = grind (arith, length-append, length-take, length-drop, fewer source more a b h)

module _ (reader : Reader) (leaf : Leaf) (size : ℕ) (turn : InTurn 0 leaf.stretches size) (within : size ≤ length reader.source) (lines : HaveLineEnds reader.source leaf.stretches) where
  abbrev text : List ℕ
  text = text_of reader leaf

  abbrev place : ℕ → ℕ
  place k = place_in reader leaf k

  all_is : text ≡ all_bytes reader.source leaf.stretches
  all_is = bytes-low reader.source 0 0 leaf.stretches size (omega arith) turn

  places : ArePlaces reader leaf text place
  places = text-places reader leaf size turn within lines

  parts : (x : ℕ) → before reader leaf x ++ from reader leaf x ≡ text
  parts x = cut reader.source 0 leaf.stretches size x turn ∙ sym all_is

  -- the bytes from the offset on are those with later offsets
  count_is : (x count : ℕ) → IsParted (length text) place x count → length (from reader leaf x) ≡ length text - count
  count_is x count h = go (le_or count j) (le_or j count)
    where
      m : ℕ
      m = length (from reader leaf x)

      j : ℕ
      j = length text - m

      fits : m ≤ length text
      fits = let l = length-append (before reader leaf x) (from reader leaf x) in let e = ap length (parts x) in omega arith

      left_is : (i : ℕ) → i ≤ length text → place i ≡ place_with (length text - i) leaf.stretches
      left_is i le = ap (λ n. place_with n leaf.stretches) (length-drop i text)

      later : (i : ℕ) → j ≤ i → i < length text → x ≤ place i
      later i a b = by (le_or x (end_of leaf.stretches))
        where
          by : (x ≤ end_of leaf.stretches) ⊎ (end_of leaf.stretches < x) → x ≤ place i
          by (inl e) =
              let f = fits in
              subst (λ p. x ≤ p) (sym (left_is i (omega arith))) (place-from reader.source leaf.stretches size turn (length text - i) x (omega arith) e)
          by (inr e) = absurd (let z = none-following reader.source leaf.stretches size turn x (omega arith) in omega arith)

      earlier : (i : ℕ) → i < j → place i < x
      earlier i a = by (le_or x (place i))
        where
          by : (x ≤ place i) ⊎ (place i < x) → place i < x
          by (inr e) = e
          by (inl e) = absurd
              (let f = fewer reader.source leaf.stretches x (place i) e in
              let r = ap length (places.rest i (omega arith)) in
              let d = length-drop i text in
              let w = fits in
              omega arith)

      go : (count ≤ j) ⊎ (j < count) → (j ≤ count) ⊎ (count < j) → length (from reader leaf x) ≡ length text - count
      go (inl a) (inl b) = let f = fits in let w = h.within in omega arith
      go (inl a) (inr b) = absurd (let p = earlier count b in let q = h.later count (omega arith) (omega arith) in omega arith)
      go (inr a) k = absurd (let w = h.within in let p = h.earlier j a in let q = later j (omega arith) (omega arith) in omega arith)

  rest_is : (x count : ℕ) → IsParted (length text) place x count → from reader leaf x ≡ drop count text
  rest_is x count h =
      let w = h.within in
      let c = count_is x count h in
      let l = length-append (before reader leaf x) (from reader leaf x) in
      let e = ap length (parts x) in
      sym (drop-append_seam (before reader leaf x) (from reader leaf x)) ∙ ap (λ n. drop n (before reader leaf x ++ from reader leaf x)) (let q : length (before reader leaf x) ≡ count = omega arith in q) ∙ ap (drop count) (parts x)

  front_is : (x count : ℕ) → IsParted (length text) place x count → before reader leaf x ≡ take count text
  front_is x count h =
      let w = h.within in
      let c = count_is x count h in
      let l = length-append (before reader leaf x) (from reader leaf x) in
      let e = ap length (parts x) in
      sym (take-append_seam (before reader leaf x) (from reader leaf x)) ∙ ap (λ n. take n (before reader leaf x ++ from reader leaf x)) (let q : length (before reader leaf x) ≡ count = omega arith in q) ∙ ap (take count) (parts x)

  pub size-is : length text ≡ size_of leaf.stretches
  size-is = ap length all_is ∙ all-size reader.source 0 leaf.stretches size turn within

  pub byte-is : (k : ℕ) → k < length text → (place k < length reader.source) × (get_or reader.source (place k) 0 ≡ get_or text k 0)
  byte-is k lt =
      let n = size-is in
      let i = at-next reader.source leaf.stretches size turn within lines (length text - k) (place k) (get_or text k 0) (drop (suc k) text)
      ((let q : length text - k ≤ size_of leaf.stretches = omega arith in q), ap (λ m. place_with m leaf.stretches) (length-drop k text))
      (places.rest k (let q : k ≤ length text = omega arith in q) ∙ drop-cons text k 0 lt) in
      (i.inside, i.byte)

  pub leaf-places : HaveWholeEndings text place → AreLeafPlaces reader leaf text place
  leaf-places whole = record { places = places; front = front_is; rest = rest_is; inside = λ k lt. (byte-is k lt).0; bytes = λ k lt. (byte-is k lt).1; endings = whole }
