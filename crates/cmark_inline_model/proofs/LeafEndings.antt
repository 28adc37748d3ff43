-- The line endings of a leaf's text are whole: a stretch begins with no line feed that belongs to a carriage return before it.
use Rattle.std.specs.Prelude.{◌-◌, get_or}
use Rattle.std.proofs.Common.{◌≡◌, ℕ, suc, ◌<◌, ◌≤◌, false, List, [], ◌∷◌, length, sym, ap, ◌∙◌, arith, length-drop, rules}
use Rattle.cmark_grammar.specs.Answers.{Lookup}
use Rattle.cmark_grammar.specs.BlockDocument.{BlockDocument}
use Rattle.cmark_grammar.specs.Derivation.{Derives}
use Rattle.cmark_grammar.specs.LeafText.{Leaf, Stretch, size_of, place_with, InTurn}
use Rattle.cmark_grammar.specs.Lines.{is_content}
use Rattle.cmark_grammar.specs.Options.{Options}
use Rattle.cmark_grammar.specs.Readers.{Reader}
use Rattle.cmark_grammar.specs.SpanDocuments.{Segment, Given, Content, segments}
use Rattle.cmark_block_model.proofs.RangeLaws.{derived-order}
use Rattle.cmark_inline_model.specs.LeafModel.{HaveLineEnds, AreLeavesInTurn, AreLeavesOfLines}
use Rattle.cmark_inline_model.specs.PlacedLeaves.{IsPlaced, AreLeavesPlaced}
use Rattle.cmark_inline_model.specs.PlacedTokens.{HaveWholeEndings}
use Rattle.cmark_inline_model.specs.TextPlaces.{text_of, place_in}
use Rattle.cmark_inline_model.proofs.DocumentLeaves.{segments-turn}
use Rattle.cmark_inline_model.proofs.LeafCuts.{byte-is, leaf-places, size-is}
use Rattle.cmark_inline_model.proofs.LeafFronts.{GoOnWithText, derived-fronts}
use Rattle.cmark_inline_model.proofs.LeafLines.{derived-lines}
use Rattle.cmark_inline_model.proofs.LeafPlaces.{by_size}
use Rattle.cmark_inline_model.proofs.LeafSteps.{place-first}
use Rattle.cmark_inline_model.proofs.LeafStretches.{AllLeaves}

-- a byte that ends a line is directly after the byte before it
ending_at : (source : List ℕ) (from : ℕ) (st : List Stretch) (size n : ℕ) → InTurn from st size → HaveLineEnds source st → GoOnWithText source st → suc n ≤ size_of st
    → is_content (get_or source (place_with n st) 0) ≡ false → 0 < n → suc (place_with (suc n) st) ≡ place_with n st
ending_at source from [] size n h l g k c p = absurd (omega arith)
ending_at source from (s ∷ []) size n h l g k c p = let x = h.1 in omega arith
ending_at source from (s ∷ (t ∷ more)) size n h l g k c p =
    by_size (λ q. is_content (get_or source (place_with n (s ∷ (t ∷ more))) 0) ≡ false → suc q ≡ place_with n (s ∷ (t ∷ more))) (size_of (t ∷ more)) (suc n) (s.end - (suc n - size_of (t ∷ more))) (place_with (suc n) (t ∷ more))
    here (λ le. later le (ending_at source s.end (t ∷ more) size n h.2 l.2 (following more g) le)) c
  where
    following : (rest : List Stretch) → GoOnWithText source (s ∷ (t ∷ rest)) → GoOnWithText source (t ∷ rest)
    following rest i = i.1

    here : size_of (t ∷ more) < suc n → is_content (get_or source (place_with n (s ∷ (t ∷ more))) 0) ≡ false → suc (s.end - (suc n - size_of (t ∷ more))) ≡ place_with n (s ∷ (t ∷ more))
    here lt = search (rules, by_size, first)
      where
        first : n ≡ size_of (t ∷ more) → is_content (get_or source (place_with n (t ∷ more)) 0) ≡ false → ⊥
        first e d = cc (place-first source t more l.2)

    later : suc n ≤ size_of (t ∷ more) → (is_content (get_or source (place_with n (t ∷ more)) 0) ≡ false → 0 < n → suc (place_with (suc n) (t ∷ more)) ≡ place_with n (t ∷ more))
        → is_content (get_or source (place_with n (s ∷ (t ∷ more))) 0) ≡ false → suc (place_with (suc n) (t ∷ more)) ≡ place_with n (s ∷ (t ∷ more))
    later le i =
        by_size (λ q. is_content (get_or source q 0) ≡ false → suc (place_with (suc n) (t ∷ more)) ≡ q) (size_of (t ∷ more)) n (s.end - (n - size_of (t ∷ more))) (place_with n (t ∷ more))
        (λ m d. absurd (omega arith)) (λ m d. i d p)

module _ (reader : Reader) (leaf : Leaf) (turn : InTurn 0 leaf.stretches (length reader.source)) (lines : HaveLineEnds reader.source leaf.stretches) (fronts : GoOnWithText reader.source leaf.stretches) where
  abbrev text : List ℕ
  text = text_of reader leaf

  abbrev place : ℕ → ℕ
  place k = place_in reader leaf k

  fits : length reader.source ≤ length reader.source
  fits = omega arith

  by_left : (k : ℕ) → place k ≡ place_with (length text - k) leaf.stretches
  by_left k = ap (λ m. place_with m leaf.stretches) (length-drop k text)

  whole : HaveWholeEndings text place
  whole k lt return feed =
      let n = length text - suc k in
      let s : length text ≡ size_of leaf.stretches = size-is reader leaf (length reader.source) turn fits lines in
      let e : length text - k ≡ suc n = omega arith in
      let a : place k ≡ place_with (suc n) leaf.stretches = by_left k ∙ ap (λ m. place_with m leaf.stretches) e in
      let b : place (suc k) ≡ place_with n leaf.stretches = by_left (suc k) in
      let byte : get_or reader.source (place (suc k)) 0 ≡ 10 = (byte-is reader leaf (length reader.source) turn fits lines (suc k) lt).1 ∙ feed in
      let ends : is_content (get_or reader.source (place_with n leaf.stretches) 0) ≡ false = ap (λ i. is_content (get_or reader.source i 0)) (sym b) ∙ ap is_content byte in
      b ∙ sym (ending_at reader.source 0 leaf.stretches (length reader.source) n turn lines fronts (let q : suc n ≤ size_of leaf.stretches = omega arith in q) ends (let q : 0 < n = omega arith in q)) ∙ ap suc (sym a)

  pub leaf-placed : IsPlaced reader leaf
  leaf-placed = record { turn = turn; lines = lines; places = leaf-places reader leaf (length reader.source) turn fits lines whole }

pub all_placed : (reader : Reader) (others : List Segment) → AreLeavesInTurn (length reader.source) others → AreLeavesOfLines reader.source others → AllLeaves (GoOnWithText reader.source) others → AreLeavesPlaced reader others
all_placed reader [] a b c = tt
all_placed reader (Given r ∷ others) a b c = all_placed reader others a b c
all_placed reader (Content leaf ∷ others) a b c = (leaf-placed reader leaf a.0 b.0 c.0, all_placed reader others a.1 b.1 c.1)

pub derived-placed : (reader : Reader) (options : Options) (lookup : Lookup) (document : BlockDocument) → Derives reader.source options lookup document → AreLeavesPlaced reader (segments document)
derived-placed reader options lookup document h = search (rules, all_placed, segments-turn, derived-order, derived-lines, derived-fronts)
