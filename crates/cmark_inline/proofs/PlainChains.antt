-- Literal items, one after the other, are one text.
use Rattle.std.specs.Prelude.{if◌then◌else◌, nat_lt}
use Rattle.std.proofs.Common.{◌≡◌, ◌⊎◌, inl, inr, ℕ, zero, suc, ◌-◌, ◌<◌, ◌≤◌, Bool, true, false, List, [], ◌∷◌, ◌++◌, length, refl, sym, ap, ◌∙◌, subst, arith, length-drop}
use Rattle.std.proofs.lemmas.Bool.{eq-eqb, ltb-true, ltb-false}
use Rattle.cmark_grammar.specs.Answers.{Lookup}
use Rattle.cmark_grammar.specs.InlineTokens.{from, item_at, goes_on, longest, plain_end, token}
use Rattle.cmark_grammar.specs.Items.{Plain}
use Rattle.cmark_grammar.specs.LeafText.{Leaf}
use Rattle.cmark_grammar.specs.Options.{Options}
use Rattle.cmark_grammar.specs.Readers.{Reader}
use Rattle.cmark_inline_model.specs.PlacedTokens.{StopsAt}
use Rattle.cmark_inline.specs.CursorProgress.{AreTexts, HasBegun}
use Rattle.cmark_inline.specs.PlainStretches.{StandsForItself}
use Rattle.cmark_inline.specs.Tokens.{begins_at, reading, whole}
use Rattle.cmark_inline.proofs.TokenSteps.{from-is}

pub before-or-following : (a b : ℕ) → (a ≤ b) ⊎ (b < a)
before-or-following a b = go (nat_lt b a) refl
  where
    go : (z : Bool) → nat_lt b a ≡ z → (a ≤ b) ⊎ (b < a)
    go true e = inr (ltb-true b a e)
    go false e = inl (ltb-false b a e)

module _ (o : Options) (l : Lookup) (cell : Bool) (text : List ℕ) where
  abbrev one : Reader
  one = reading o l text

  abbrev alone : Leaf
  alone = whole cell text

  -- there are literal items from `start` to `to`
  pub record Reaches (start to : ℕ) : Type 0 where
    pub ends : List ℕ
    pub texts : AreTexts o l cell text start ends to

  pub texts-order : (start : ℕ) (ends : List ℕ) (to : ℕ) → AreTexts o l cell text start ends to → start ≤ to
  texts-order start [] to h = omega (arith, h)
  texts-order start (end ∷ ends) to h = let a = h.0 in let b = texts-order end ends to h.2 in omega (arith, a, b)

  pub texts-join : (start : ℕ) (xs : List ℕ) (mid : ℕ) (ys : List ℕ) (to : ℕ) → AreTexts o l cell text start xs mid → AreTexts o l cell text mid ys to → AreTexts o l cell text start (xs ++ ys) to
  texts-join start [] mid ys to h k = subst (λ m. AreTexts o l cell text m ys to) (sym h) k
  texts-join start (end ∷ xs) mid ys to h k = (h.0, h.1, texts-join end xs mid ys to h.2 k)

  pub reaches-none : (start to : ℕ) → start ≡ to → Reaches start to
  reaches-none start to e = record { ends = []; texts = e }

  pub reaches-one : (start to : ℕ) → start < to → begins_at o l cell text start ≡ item_at Plain start to → Reaches start to
  reaches-one start to lt t = record { ends = to ∷ []; texts = (lt, t, refl) }

  -- a literal item begins at each offset
  pub reaches-all : (n start to : ℕ) → to - start ≤ n → start ≤ to → ((k : ℕ) → start ≤ k → k < to → StandsForItself o l cell text k to) → Reaches start to
  reaches-all zero start to few le all = reaches-none start to (omega (arith, few, le))
  reaches-all (suc n) start to few le all = go (before-or-following to start) (λ end a b. reaches-all n end to (omega (arith, few, a)) b (λ k low high. all k (let q : start ≤ k = omega (arith, a, low) in q) high))
    where
      go : (to ≤ start) ⊎ (start < to) → ((end : ℕ) → start < end → end ≤ to → Reaches end to) → Reaches start to
      go (inl a) later = reaches-none start to (omega (arith, a, le))
      go (inr a) later =
          let s = all start (omega arith) a in
          let rest = later s.end s.further s.within in
          record { ends = s.end ∷ rest.ends; texts = (s.further, s.token, rest.texts) }

  -- they are one text up to an offset where no literal item begins
  reaches-end : (ends : List ℕ) (n start to : ℕ) → AreTexts o l cell text start ends to → to - start ≤ n → StopsAt one alone to → plain_end one alone n start ≡ to
  reaches-end [] zero start to h few stops = h
  reaches-end [] (suc n) start to h few stops = subst (λ k. plain_end one alone (suc n) k ≡ to) (sym h) (stops (plain_end one alone n))
  reaches-end (end ∷ ends) zero start to h few stops = let a = h.0 in let b = texts-order end ends to h.2 in absurd (omega (arith, a, b, few))
  reaches-end (end ∷ ends) (suc n) start to h few stops =
      let a = h.0 in
      ap (λ t. goes_on one alone t start (plain_end one alone n)) h.1
      ∙ ap (λ z. if z then plain_end one alone n end else start) (eq-eqb start start refl)
      ∙ reaches-end ends n end to h.2 (omega (arith, a, few)) stops

  pub begun-order : (at start to : ℕ) → HasBegun o l cell text at start to → start < to
  begun-order at start to h = let a = h.some in let b = texts-order h.end h.ends to h.texts in omega (arith, a, b)

  pub begun-token : (at start to : ℕ) → HasBegun o l cell text at start to → to ≤ length text → StopsAt one alone to → token one alone at ≡ item_at Plain start to
  unfolding token
  begun-token at start to h within stops =
      let m = ap length (from-is o l cell text h.end) in
      let d = length-drop h.end text in
      ap (longest one alone) h.token ∙ ap (item_at Plain start) (reaches-end h.ends (length (from one alone h.end)) h.end to h.texts (omega (arith, m, d, within)) stops)

  -- a text continues
  pub begun-further : (at start mid to : ℕ) → HasBegun o l cell text at start mid → Reaches mid to → HasBegun o l cell text at start to
  begun-further at start mid to h k = record { end = h.end; some = h.some; token = h.token; ends = h.ends ++ k.ends; texts = texts-join h.end h.ends mid k.ends to h.texts k.texts }

  -- the pending text from `start` to `to`, if the pass is at the offset `at`
  abbrev pub IsHeld : (at start to : ℕ) → Type 0
  IsHeld at start to = ((at ≡ start) × (start ≡ to)) ⊎ HasBegun o l cell text at start to

  pub held-further : (at start mid to : ℕ) → IsHeld at start mid → Reaches mid to → IsHeld at start to
  held-further at start mid to (inr h) k = inr (begun-further at start mid to h k)
  held-further at start mid to (inl h) k = go k.ends k.texts
    where
      go : (ends : List ℕ) → AreTexts o l cell text mid ends to → IsHeld at start to
      go [] e = inl (h.0, h.1 ∙ e)
      go (end ∷ ends) t = inr (record {
        end = end;
        some = subst (λ n. n < end) (sym h.1) t.0;
        token = ap (begins_at o l cell text) (h.0 ∙ h.1) ∙ t.1 ∙ ap (λ n. item_at Plain n end) (sym h.1);
        ends = ends;
        texts = t.2;
      })

  pub held-order : (at start to : ℕ) → IsHeld at start to → start ≤ to
  held-order at start to (inl h) = let e = h.1 in omega (arith, e)
  held-order at start to (inr h) = let lt = begun-order at start to h in omega (arith, lt)
