-- Between the offsets of a byte of a leaf's text and of the next byte there are only prefixes of containers, and no pipe.
use Rattle.std.specs.Prelude.{◌-◌, ◌==◌, get_or}
use Rattle.std.proofs.Common.{◌≡◌, ℕ, suc, ◌<◌, ◌≤◌, true, false, List, [], ◌∷◌, length, ap, ◌∙◌, subst, arith, eqb-true, length-drop, rules}
use Rattle.cmark_grammar.specs.Answers.{Lookup}
use Rattle.cmark_grammar.specs.BlockDocument.{BlockDocument}
use Rattle.cmark_grammar.specs.Derivation.{Derives}
use Rattle.cmark_grammar.specs.LeafText.{Leaf, Stretch, size_of, place_with, InTurn}
use Rattle.cmark_grammar.specs.Options.{Options}
use Rattle.cmark_grammar.specs.Readers.{Reader}
use Rattle.cmark_grammar.specs.SpanDocuments.{Segment, Given, Content, segments}
use Rattle.cmark_inline_model.specs.LeafGaps.{is_prefix_byte, HasPrefixesBetween, HavePrefixesBetween, HaveNoPipesBetween}
use Rattle.cmark_inline_model.specs.LeafModel.{HaveLineEnds}
use Rattle.cmark_inline_model.specs.PlacedLeaves.{AreLeavesPlaced}
use Rattle.cmark_inline_model.specs.TextPlaces.{text_of, place_in}
use Rattle.cmark_inline_model.proofs.LeafCuts.{size-is}
use Rattle.cmark_inline_model.proofs.LeafEndings.{derived-placed}
use Rattle.cmark_inline_model.proofs.LeafPlaces.{by_size}
use Rattle.cmark_inline_model.proofs.LeafPrefixes.{HaveGaps, derived-gaps}
use Rattle.cmark_inline_model.proofs.LeafSteps.{place-first}
use Rattle.cmark_inline_model.proofs.LeafStretches.{AllLeaves}

-- the bytes between the last n bytes and those but one
between : (source : List ℕ) (from : ℕ) (st : List Stretch) (size n x : ℕ) → InTurn from st size → HaveLineEnds source st → HaveGaps source st → suc n ≤ size_of st → 0 < n
    → place_with (suc n) st < x → x < place_with n st → is_prefix_byte (get_or source x 0) ≡ true
between source from [] size n x h l g k p low high = absurd (omega arith)
between source from (s ∷ []) size n x h l g k p low high = absurd (let y = h.1 in omega arith)
between source from (s ∷ (t ∷ more)) size n x h l g k p low high =
    by_size (λ q. q < x → x < place_with n (s ∷ (t ∷ more)) → is_prefix_byte (get_or source x 0) ≡ true) (size_of (t ∷ more)) (suc n) (s.end - (suc n - size_of (t ∷ more))) (place_with (suc n) (t ∷ more))
    here (λ le. later le (between source s.end (t ∷ more) size n x h.2 l.2 (following more g) le p)) low high
  where
    following : (rest : List Stretch) → HaveGaps source (s ∷ (t ∷ rest)) → HaveGaps source (t ∷ rest)
    following rest i = i.1

    here : size_of (t ∷ more) < suc n → s.end - (suc n - size_of (t ∷ more)) < x → x < place_with n (s ∷ (t ∷ more)) → is_prefix_byte (get_or source x 0) ≡ true
    here lt = search (rules, by_size, place-first)

    later : suc n ≤ size_of (t ∷ more) → (place_with (suc n) (t ∷ more) < x → x < place_with n (t ∷ more) → is_prefix_byte (get_or source x 0) ≡ true)
        → place_with (suc n) (t ∷ more) < x → x < place_with n (s ∷ (t ∷ more)) → is_prefix_byte (get_or source x 0) ≡ true
    later le i =
        by_size (λ q. place_with (suc n) (t ∷ more) < x → x < q → is_prefix_byte (get_or source x 0) ≡ true) (size_of (t ∷ more)) n (s.end - (n - size_of (t ∷ more))) (place_with n (t ∷ more)) (λ m a b. absurd (omega arith)) (λ m. i)

leaf_between : (reader : Reader) (leaf : Leaf) → InTurn 0 leaf.stretches (length reader.source) → HaveLineEnds reader.source leaf.stretches → HaveGaps reader.source leaf.stretches → HasPrefixesBetween reader leaf
leaf_between reader leaf turn lines gaps k x lt low high =
    let n = length text - suc k in
    let s : length text ≡ size_of leaf.stretches = size-is reader leaf (length reader.source) turn (omega arith) lines in
    let e : length text - k ≡ suc n = omega arith in
    let a : place_in reader leaf k ≡ place_with (suc n) leaf.stretches = by_left k ∙ ap (λ m. place_with m leaf.stretches) e in
    let b : place_in reader leaf (suc k) ≡ place_with n leaf.stretches = by_left (suc k) in
    between reader.source 0 leaf.stretches (length reader.source) n x turn lines gaps (let q : suc n ≤ size_of leaf.stretches = omega arith in q) (let q : 0 < n = omega arith in q) (subst (λ i. i < x) a low) (subst (λ i. x < i) b high)
  where
    text : List ℕ
    text = text_of reader leaf

    by_left : (k : ℕ) → place_in reader leaf k ≡ place_with (length (text_of reader leaf) - k) leaf.stretches
    by_left k = ap (λ m. place_with m leaf.stretches) (length-drop k (text_of reader leaf))

-- a prefix has no pipe
no_pipe : (b : ℕ) → is_prefix_byte b ≡ true → (b == 124) ≡ false
no_pipe b e = grind (arith, eqb-true)

pub all_between : (reader : Reader) (others : List Segment) → AreLeavesPlaced reader others → AllLeaves (HaveGaps reader.source) others → HavePrefixesBetween reader others
all_between reader [] p g = tt
all_between reader (Given r ∷ others) p g = all_between reader others p g
all_between reader (Content leaf ∷ others) p g = (leaf_between reader leaf p.0.turn p.0.lines g.0, all_between reader others p.1 g.1)

pub no_pipes : (reader : Reader) (others : List Segment) → HavePrefixesBetween reader others → HaveNoPipesBetween reader others
no_pipes reader [] h = tt
no_pipes reader (Given r ∷ others) h = no_pipes reader others h
no_pipes reader (Content leaf ∷ others) h = ((λ k x lt low high. no_pipe (get_or reader.source x 0) (h.0 k x lt low high)), no_pipes reader others h.1)

pub derived-between : (reader : Reader) (options : Options) (lookup : Lookup) (document : BlockDocument) → Derives reader.source options lookup document → HavePrefixesBetween reader (segments document)
derived-between reader options lookup document h =
    all_between reader (segments document) (derived-placed reader options lookup document h) (derived-gaps reader.source options lookup document h)

pub derived-no-pipes : (reader : Reader) (options : Options) (lookup : Lookup) (document : BlockDocument) → Derives reader.source options lookup document → HaveNoPipesBetween reader (segments document)
derived-no-pipes reader options lookup document h = no_pipes reader (segments document) (derived-between reader options lookup document h)
