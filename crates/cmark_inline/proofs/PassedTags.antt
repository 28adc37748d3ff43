-- A tag needs no search in the source; only markup does.
use Rattle.std.specs.Prelude.{if◌then◌else◌, ◌||◌, codes, take}
use Rattle.std.proofs.Common.{◌≡◌, ◌⊎◌, inl, inr, ℕ, suc, ◌+◌, ◌-◌, ◌<◌, ◌≤◌, ◌==◌, Bool, true, false, List, [], ◌∷◌, length, drop, get_or, refl, sym, ap, ◌∙◌, arith, eqb-true, true≢false}
use Rattle.std.proofs.Math.Seq.{drop-cons}
use Rattle.std.proofs.lemmas.Bool.{eq-eqb, false_from_ne_true}
use Rattle.std.proofs.lemmas.Slice.Eq.{bytes_eq-Decides}
use Rattle.cmark_grammar.specs.Items.{ItemKind, Html}
use Rattle.cmark_grammar.specs.LeafText.{Leaf}
use Rattle.cmark_grammar.specs.Letters.{starts}
use Rattle.cmark_grammar.specs.Lines.{is_content}
use Rattle.cmark_grammar.specs.Readers.{Reader}
use Rattle.cmark_leaf_text.specs.Reads.{text_of}
use Rattle.cmark_leaf_text.specs.declared.leaf_text.LeafText.{LeafText}
use Rattle.cmark_inline.specs.LeastSteps.{begins_markup, passed_in}
use Rattle.cmark_inline.specs.Reached.{ReadsPlaces}
use Rattle.cmark_inline.specs.Tokens.{opens_markup}
use Rattle.cmark_inline.proofs.AngleSteps.{begins-none}
use Rattle.cmark_inline.proofs.PlainChains.{before-or-following}
use Rattle.cmark_inline.proofs.VisitedTokens.{StartsAt}

-- bytes that begin with a byte other than `<` are no markup
starts-other : (prefix : List ℕ) (c b : ℕ) (bs : List ℕ) → prefix ≡ 60 ∷ c ∷ [] → (b == 60) ≡ false → starts prefix (b ∷ bs) ≡ false
starts-other prefix c b bs is other = false_from_ne_true (starts prefix (b ∷ bs)) (λ t.
    let same : take 2 (b ∷ bs) ≡ 60 ∷ c ∷ [] = ap (λ p. take (length p) (b ∷ bs)) (sym is) ∙ (bytes_eq-Decides (take (length prefix) (b ∷ bs)) prefix).0 t ∙ is in
    true≢false (sym (eq-eqb b 60 (ap (λ l. get_or l 0 0) same)) ∙ other))

begins-other : (b : ℕ) (bs : List ℕ) → (b == 60) ≡ false → begins_markup (b ∷ bs) ≡ false
begins-other b bs other = ap (λ z. z || starts (codes "<?") (b ∷ bs)) (starts-other (codes "<!") 33 b bs refl other) ∙ starts-other (codes "<?") 63 b bs refl other

none-there : (z : Bool) (n : ℕ) → (z ≡ false) ⊎ (n ≡ 0) → ◌≡◌ {A = ℕ} (if z then n else 0) 0
none-there false n h = refl
none-there true n (inl e) = absurd (true≢false e)
none-there true n (inr e) = e

module _ (leaf : LeafText) (reader : Reader) (read : Leaf) (place : ℕ → ℕ) (r : ReadsPlaces leaf reader read place) where
  abbrev text : List ℕ
  text = text_of leaf

  -- if no markup opens in the text and another byte of the text follows, none opens in the source
  no-markup-there : (from : ℕ) → from + 1 < length text → (get_or text from 0 ≡ 60 → opens_markup (drop (from + 1) text) ≡ false) → begins_markup (drop (place from) reader.source) ≡ false
  no-markup-there from lt none = go (get_or text from 0 == 60) refl
    where
      first : drop (place from) reader.source ≡ get_or text from 0 ∷ drop (suc (place from)) reader.source
      first = drop-cons reader.source (place from) 0 (r.places.inside from (omega (arith, lt))) ∙ ap (λ b. b ∷ drop (suc (place from)) reader.source) (r.places.bytes from (omega (arith, lt)))

      go : (z : Bool) → (get_or text from 0 == 60) ≡ z → begins_markup (drop (place from) reader.source) ≡ false
      go false e = ap begins_markup first ∙ begins-other (get_or text from 0) (drop (suc (place from)) reader.source) e
      go true e =
          let is = eqb-true (get_or text from 0) 60 e in
          let next : place (from + 1) ≡ suc (place from) = ap place (let q : from + 1 ≡ suc from = omega arith in q) ∙ r.places.places.next from (omega (arith, lt)) (ap is_content is) in
          let second : drop (suc (place from)) reader.source ≡ get_or text (from + 1) 0 ∷ drop (suc (place (from + 1))) reader.source =
          ap (λ n. drop n reader.source) (sym next) ∙ drop-cons reader.source (place (from + 1)) 0 (r.places.inside (from + 1) lt) ∙ ap (λ b. b ∷ drop (suc (place (from + 1))) reader.source) (r.places.bytes (from + 1) lt) in
          let opens : opens_markup (drop (suc (place from)) reader.source) ≡ false = ap opens_markup second ∙ ap opens_markup (sym (drop-cons text (from + 1) 0 lt)) ∙ none is in
          ap begins_markup first ∙ ap (λ b. begins_markup (b ∷ drop (suc (place from)) reader.source)) is ∙ begins-none (drop (suc (place from)) reader.source) opens

  html-passes : (from start end : ℕ) → from < length text → end ≤ length text → start ≡ from → (get_or text from 0 ≡ 60 → opens_markup (drop (from + 1) text) ≡ false) → passed_in Html reader.source (place start) (suc (place (end - 1))) ≡ 0
  html-passes from start end lt within e none = none-there (begins_markup (drop (place start) reader.source)) (suc (place (end - 1)) - place start - 2) (go (before-or-following (length text) (from + 1)))
    where
      short : (end - 1 ≤ from) ⊎ (from < end - 1) → length text ≤ from + 1 → suc (place (end - 1)) - place start - 2 ≡ 0
      short (inr more) le = absurd (omega (arith, more, le, within))
      short (inl le) last = by (before-or-following from (end - 1))
        where
          by : (from ≤ end - 1) ⊎ (end - 1 < from) → suc (place (end - 1)) - place start - 2 ≡ 0
          by (inl same) = let q = ap place (let p : end - 1 ≡ from = omega (arith, same, le) in p) in let s = ap place e in omega (arith, q, s)
          by (inr less) = let q = r.places.places.order (end - 1) from less (omega (arith, lt)) in let s = ap place e in omega (arith, q, s)

      go : (length text ≤ from + 1) ⊎ (from + 1 < length text) → (begins_markup (drop (place start) reader.source) ≡ false) ⊎ (suc (place (end - 1)) - place start - 2 ≡ 0)
      go (inl le) = inr (short (before-or-following (end - 1) from) le)
      go (inr more) = inl (ap (λ n. begins_markup (drop (place n) reader.source)) e ∙ no-markup-there from more none)

  -- so an item of the text asks for no bytes of the source, if no markup opens at its first byte
  pub tag-passes : (from start end : ℕ) (kind : ItemKind) → from < length text → end ≤ length text → StartsAt from kind start → (get_or text from 0 ≡ 60 → opens_markup (drop (from + 1) text) ≡ false) → passed_in kind reader.source (place start) (suc (place (end - 1))) ≡ 0
  tag-passes from start end Html lt within h none = html-passes from start end lt within h none
  tag-passes from start end _ lt within h none = refl
