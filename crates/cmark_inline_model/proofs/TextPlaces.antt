-- The offsets of a leaf's text in the source: the leaf, read from an offset on, has the bytes of the text from one on, and the offsets are
-- in order.
use Rattle.std.specs.Prelude.{◌-◌, get_or, drop}
use Rattle.std.proofs.Common.{◌≡◌, ℕ, suc, ◌<◌, ◌≤◌, true, List, [], ◌∷◌, length, sym, ap, ◌∙◌, arith, length-drop}
use Rattle.std.proofs.Math.Seq.{drop-cons}
use Rattle.cmark_grammar.specs.InlineTokens.{from, place_of}
use Rattle.cmark_grammar.specs.LeafText.{Leaf, Stretch, size_of, place_with, InTurn}
use Rattle.cmark_grammar.specs.Lines.{is_content}
use Rattle.cmark_grammar.specs.Readers.{Reader}
use Rattle.cmark_inline_model.specs.LeafModel.{HaveLineEnds}
use Rattle.cmark_inline_model.specs.TextPlaces.{ArePlaces, text_of, place_in}
use Rattle.cmark_inline_model.proofs.LeafPlaces.{by_size}
use Rattle.cmark_inline_model.proofs.LeafSteps.{all_bytes, all-size, at-bytes, at-next, bytes-low, place-low}

-- fewer bytes are left further on
place_less : (low : ℕ) (st : List Stretch) (size more less : ℕ) → InTurn low st size → less < more → more ≤ size_of st → place_with more st < place_with less st
place_less low [] size more less h lt le = absurd (omega arith)
place_less low (s ∷ []) size more less h lt le = let x = h.1 in omega arith
place_less low (s ∷ (t ∷ rest)) size more less h lt le =
    by_size (λ p. p < place_with less (s ∷ (t ∷ rest))) (size_of (t ∷ rest)) more (s.end - (more - size_of (t ∷ rest))) (place_with more (t ∷ rest))
    (λ here. by_size (λ p. s.end - (more - size_of (t ∷ rest)) < p) (size_of (t ∷ rest)) less (s.end - (less - size_of (t ∷ rest))) (place_with less (t ∷ rest))
    (λ there. (let x = h.1 in omega arith))
    (λ there. (let x = h.1 in let y = h.2.0 in let z = place-low s.end t rest size less h.2 there in omega arith)))
    (λ here. by_size (λ p. place_with more (t ∷ rest) < p) (size_of (t ∷ rest)) less (s.end - (less - size_of (t ∷ rest))) (place_with less (t ∷ rest))
    (λ there. absurd (omega arith))
    (λ there. place_less s.end (t ∷ rest) size more less h.2 lt here))

module _ (reader : Reader) (leaf : Leaf) (size : ℕ) (turn : InTurn 0 leaf.stretches size) (within : size ≤ length reader.source) (lines : HaveLineEnds reader.source leaf.stretches) where
  abbrev text : List ℕ
  text = all_bytes reader.source leaf.stretches

  abbrev place : ℕ → ℕ
  place k = place_of reader leaf (drop k text)

  size_is : length text ≡ size_of leaf.stretches
  size_is = all-size reader.source 0 leaf.stretches size turn within

  by_left : (k : ℕ) → place k ≡ place_with (length text - k) leaf.stretches
  by_left k = ap (λ m. place_with m leaf.stretches) (length-drop k text)

  rest_from : (k : ℕ) → k ≤ length text → from reader leaf (place k) ≡ drop k text
  rest_from k le =
      let n = size_is in
      at-bytes reader.source leaf.stretches size turn within lines (length text - k) (place k) ((let q : length text - k ≤ size_of leaf.stretches = omega arith in q), by_left k)
      ∙ ap (λ m. drop m text) (let q : size_of leaf.stretches - (length text - k) ≡ k = omega arith in q)

  next_place : (k : ℕ) → k < length text → is_content (get_or text k 0) ≡ true → place (suc k) ≡ suc (place k)
  next_place k lt content =
      let n = size_is in
      let bytes : from reader leaf (place k) ≡ get_or text k 0 ∷ drop (suc k) text = rest_from k (let q : k ≤ length text = omega arith in q) ∙ drop-cons text k 0 lt in
      let i = at-next reader.source leaf.stretches size turn within lines (length text - k) (place k) (get_or text k 0) (drop (suc k) text) ((let q : length text - k ≤ size_of leaf.stretches = omega arith in q), by_left k) bytes in
      sym (i.next content)

  in_order : (j k : ℕ) → j < k → k ≤ length text → place j < place k
  in_order j k lt le = grind (arith, size_is, by_left, place_less)

  pub text-places : ArePlaces reader leaf (text_of reader leaf) (place_in reader leaf)
  text-places = grind (arith, bytes-low, rest_from, next_place, in_order)
