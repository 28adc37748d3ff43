-- The text of a leaf that was read is the text of the grammar's leaf, in the same places.
use Rattle.std.specs.Prelude.{◌==◌, ◌-◌, drop, get_or, if◌then◌else◌, nat_lt, option_map, is_some}
use Rattle.std.proofs.Common.{◌≡◌, ℕ, suc, ◌+◌, ◌<◌, ◌≤◌, Bool, true, false, List, [], ◌∷◌, ◌++◌, length, length-drop, refl, sym, ap, ◌∙◌, subst, arith, append-nil}
use Rattle.std.proofs.lemmas.Bool.{ltb-true, ltb-false}
use Rattle.cmark_grammar.specs.Answers.{Lookup}
use Rattle.cmark_grammar.specs.LeafText.{InTurn, Leaf, Stretch, place_with, size_of}
use Rattle.cmark_grammar.specs.Options.{Options}
use Rattle.cmark_grammar.specs.Readers.{Reader}
use Rattle.cmark_grammar.specs.Tokens.{slice}
use Rattle.cmark_inline.specs.Decided as decided
use Rattle.cmark_inline.specs.Linked.{said_by}
use Rattle.cmark_inline.specs.Reached.{ReadsPlaces}
use Rattle.cmark_inline.proofs.PlaceEnds.{first-place, last-place}
use Rattle.cmark_inline_model.specs.LeafGaps.{HasNoPipesBetween}
use Rattle.cmark_inline_model.specs.PlacedLeaves.{IsPlaced}
use Rattle.cmark_inline_model.specs.PlacedTokens.{AreLeafPlaces}
use Rattle.cmark_inline_model.specs.TextPlaces as places
use Rattle.cmark_inline_model.specs.TextPlaces.{place_in}
use Rattle.cmark_inline_model.proofs.LeafSteps.{all_bytes, all-size, bytes-low}
use Rattle.cmark_references.specs.Definitions.{definition}
use Rattle.cmark_references.specs.Footnotes.{footnote}
use Rattle.cmark_references.specs.declared.definitions.RefDefs.{RefDefs}
use Rattle.cmark_references.specs.declared.footnotes.FootnoteDefs.{FootnoteDefs}
use Rattle.cmark_leaf_text.specs.Reads.{is_cell_of, place_of, source_of, text_of}
use Rattle.cmark_leaf_text.specs.Stretches.{leaf_bytes, place_on}
use Rattle.cmark_leaf_text.specs.declared.leaf_text.LeafText.{LeafText}
use Rattle.cmark_leaf_text.specs.declared.stretch.LeafLine.{LeafLine}
use Rattle.cmark_block_walk.specs.Walking.{lines_of}

by-less : (P : ℕ → Type 0) (m n a b : ℕ) → (m < n → P a) → (n ≤ m → P b) → P (if nat_lt m n then a else b)
by-less P m n a b h k = go (nat_lt m n) refl
  where
    go : (z : Bool) → nat_lt m n ≡ z → P (if z then a else b)
    go true e = h (ltb-true m n e)
    go false e = k (ltb-false m n e)

-- the bytes of the lines are the bytes of the stretches
pub line-bytes : (source : List ℕ) (ss : List Stretch) → leaf_bytes source (lines_of ss) ≡ all_bytes source ss
line-bytes source [] = refl
line-bytes source (s ∷ []) = sym (append-nil (slice source s.start s.end))
line-bytes source (s ∷ (t ∷ ss)) = ap (λ l. slice source s.start s.end ++ l) (line-bytes source (t ∷ ss))

-- a byte of the lines has the place at which the bytes from it on begin
pub line-place : (from : ℕ) (ss : List Stretch) (size k : ℕ) → InTurn from ss size → k < size_of ss → place_on (lines_of ss) k ≡ place_with (size_of ss - k) ss
line-place from [] size k h lt = absurd (omega (arith, lt))
line-place from (s ∷ []) size k h lt =
    let o = h.1 in
    by-less (λ p. p ≡ s.end - (size_of (s ∷ []) - k)) k (s.end - s.start) (s.start + k) (k - (s.end - s.start))
    (λ l. (let q : s.start + k ≡ s.end - (((s.end - s.start) + 0) - k) = omega (arith, o, l) in q))
    (λ l. absurd (omega (arith, l, lt)))
line-place from (s ∷ (t ∷ ss)) size k h lt =
    let o = h.1 in
    let m = s.end - s.start in
    let rest = size_of (t ∷ ss) in
    by-less (λ p. p ≡ place_with (size_of (s ∷ (t ∷ ss)) - k) (s ∷ (t ∷ ss))) k m (s.start + k) (place_on (lines_of (t ∷ ss)) (k - m))
    (λ l. by-less (λ p. s.start + k ≡ p) rest ((m + rest) - k) (s.end - (((m + rest) - k) - rest)) (place_with ((m + rest) - k) (t ∷ ss))
    (λ less. (let q : s.start + k ≡ s.end - (((m + rest) - k) - rest) = omega (arith, o, l) in q))
    (λ more. absurd (omega (arith, more, l))))
    (λ l. by-less (λ p. place_on (lines_of (t ∷ ss)) (k - m) ≡ p) rest ((m + rest) - k) (s.end - (((m + rest) - k) - rest)) (place_with ((m + rest) - k) (t ∷ ss))
    (λ less. absurd (omega (arith, less, l, lt)))
    (λ more.
    line-place s.end (t ∷ ss) size (k - m) h.2 (let q : k - m < rest = omega (arith, l, lt) in q)
    ∙ ap (λ n. place_with n (t ∷ ss)) (let q : rest - (k - m) ≡ (m + rest) - k = omega (arith, l, lt) in q)))

module _ (reader : Reader) (leaf : Leaf) (placed : IsPlaced reader leaf) where
  whole-text : places.text_of reader leaf ≡ all_bytes reader.source leaf.stretches
  whole-text = bytes-low reader.source 0 0 leaf.stretches (length reader.source) (omega arith) placed.turn

  pub whole-size : length (places.text_of reader leaf) ≡ size_of leaf.stretches
  whole-size = ap length whole-text ∙ all-size reader.source 0 leaf.stretches (length reader.source) placed.turn (omega arith)

  -- the text of the lines is the text of the grammar's leaf
  pub text-same : (read : LeafText) (lines : List LeafLine) → source_of read ≡ reader.source → lines ≡ lines_of leaf.stretches → text_of read ≡ leaf_bytes (source_of read) lines → text_of read ≡ places.text_of reader leaf
  text-same read lines source are text =
      text ∙ ap (λ s. leaf_bytes s lines) source ∙ ap (leaf_bytes reader.source) are ∙ line-bytes reader.source leaf.stretches ∙ sym whole-text

  pub place-same : (read : LeafText) (lines : List LeafLine) → lines ≡ lines_of leaf.stretches → text_of read ≡ places.text_of reader leaf → ((k : ℕ) → k < length (text_of read) → place_of read k ≡ place_on lines k)
      → (k : ℕ) → k < length (text_of read) → place_of read k ≡ place_in reader leaf k
  place-same read lines are text stand k lt =
      let n = whole-size in
      let m = ap length text in
      let d = length-drop k (places.text_of reader leaf) in
      stand k lt
      ∙ ap (λ l. place_on l k) are
      ∙ line-place 0 leaf.stretches (length reader.source) k placed.turn (let q : k < size_of leaf.stretches = omega (arith, lt, m, n) in q)
      ∙ ap (λ s. place_with s leaf.stretches) (let q : size_of leaf.stretches - k ≡ length (drop k (places.text_of reader leaf)) = omega (arith, d, n) in q)

  -- the bytes of the text that was read are those of the grammar's leaf, in the same places
  pub read-places : (read : LeafText) → HasNoPipesBetween reader leaf → text_of read ≡ places.text_of reader leaf → leaf.is_cell ≡ is_cell_of read → ((k : ℕ) → k < length (text_of read) → place_of read k ≡ place_in reader leaf k) → ReadsPlaces read reader leaf (place_in reader leaf)
  read-places read pipes text cell bytes = record {
    places = subst (λ t. AreLeafPlaces reader leaf t (place_in reader leaf)) (sym text) placed.places;
    cell = cell;
    bytes = bytes;
    first = first-place reader leaf placed.turn placed.lines;
    last = subst (λ (t : List ℕ). 0 < length t → place_in reader leaf (length t) ≡ suc (place_in reader leaf (length t - 1))) (sym text) (last-place reader leaf placed.lines);
    turn = placed.turn;
    lines = placed.lines;
    pipes = subst (λ (t : List ℕ). (k x : ℕ) → suc k < length t → place_in reader leaf k < x → x < place_in reader leaf (suc k) → (get_or reader.source x 0 == 124) ≡ false) (sym text) pipes;
  }

-- the leaf is read with the same data as by the grammar
pub leaf-same : (options : Options) (lookup : Lookup) (references known : RefDefs) (footnotes : FootnoteDefs) (reader : Reader) (leaf : Leaf) (read : LeafText) → reader.source ≡ source_of read → reader.options ≡ options → reader.lookup ≡ lookup
    → ((folded : List ℕ) → option_map decided.said (reader.definition folded) ≡ option_map said_by (definition known folded)) → references ≡ known
    → ((folded : List ℕ) → reader.has_footnote folded ≡ is_some (footnote footnotes folded)) → reader.has_callback ≡ true → ReadsPlaces read reader leaf (place_in reader leaf)
    → decided.ReadsSame options lookup references footnotes read reader leaf (place_in reader leaf)
leaf-same options lookup references known footnotes reader leaf read source options_are lookup_is definitions same footnotes_are callback h = record {
  source = source;
  options_are = options_are;
  lookup_is = lookup_is;
  definitions = λ folded. definitions folded ∙ ap (λ (t : RefDefs). option_map said_by (definition t folded)) (sym same);
  footnotes_are = footnotes_are;
  callback = callback;
  cell = h.cell;
  places = h.places.places;
  bytes = h.bytes;
}
