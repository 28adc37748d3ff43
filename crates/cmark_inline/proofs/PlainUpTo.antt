-- The bytes between two special bytes are literal items, one after the other, up to the second one or up to the blanks before it.
use Rattle.std.specs.Prelude.{None}
use Rattle.std.proofs.Common.{◌≡◌, ◌⊎◌, inl, inr, ℕ, suc, ◌+◌, ◌-◌, ◌<◌, ◌≤◌, ◌==◌, Bool, true, false, List, length, drop, get_or, refl, sym, ap, ◌∙◌, arith, eqb-true, true≢false}
use Rattle.std.proofs.lemmas.Bool.{or_cases}
use Rattle.cmark_grammar.specs.Answers.{Lookup}
use Rattle.cmark_grammar.specs.Columns.{is_blank_byte}
use Rattle.cmark_grammar.specs.InlineTokens.{item_at}
use Rattle.cmark_grammar.specs.Items.{Plain}
use Rattle.cmark_grammar.specs.LineBreaks.{blank_break_in}
use Rattle.cmark_grammar.specs.Lines.{is_content}
use Rattle.cmark_grammar.specs.LinkDefinitions.{after_leading_blanks}
use Rattle.cmark_grammar.specs.Options.{Options}
use Rattle.cmark_grammar.specs.Tags.{after_ending}
use Rattle.cmark_inline.specs.PlainStretches.{StandsForItself, StandUpTo}
use Rattle.cmark_inline.proofs.PlainBytes.{content-there, no-blank-break, no-break-before, plain-bytes}
use Rattle.cmark_inline.proofs.PlainChains.{Reaches, before-or-following, reaches-all}

pub blank-content : (b : ℕ) → is_blank_byte b ≡ true → is_content b ≡ true
blank-content b e = go (or_cases (b == 32) (b == 9) e)
  where
    go : ((b == 32) ≡ true) ⊎ ((b == 9) ≡ true) → is_content b ≡ true
    go (inl h) = ap is_content (eqb-true b 32 h)
    go (inr h) = ap is_content (eqb-true b 9 h)

module _ (o : Options) (l : Lookup) (cell : Bool) (text : List ℕ) (start to at : ℕ) (within : at ≤ length text) (stands : StandUpTo o l cell text start at) (low : start ≤ to) (high : to ≤ at)
    (blanks : (j : ℕ) → to ≤ j → j < at → is_blank_byte (get_or text j 0) ≡ true) (last : start < to → is_blank_byte (get_or text (to - 1) 0) ≡ true → after_ending (after_leading_blanks (drop to text)) ≡ None) where
  content : (j : ℕ) → start ≤ j → j < to → is_content (get_or text j 0) ≡ true
  content j a b = go (is_blank_byte (get_or text j 0)) refl
    where
      go : (z : Bool) → is_blank_byte (get_or text j 0) ≡ z → is_content (get_or text j 0) ≡ true
      go true e = blank-content (get_or text j 0) e
      go false e =
          let s = stands j a (omega (arith, b, high)) (λ f. absurd (true≢false (sym f ∙ e))) in
          content-there o l cell text j (omega (arith, b, high, within)) (item_at Plain j s.end) s.token refl

  none : (k : ℕ) → start ≤ k → k < to → blank_break_in (drop k text) ≡ None
  none k a b =
      no-blank-break (drop k text) (no-break-before (to - suc k) text k to (let q : k + suc (to - suc k) ≡ to = omega (arith, b) in q) (omega (arith, high, within))
      (λ j c d. content j (let q : start ≤ j = omega (arith, a, c) in q) d) (last (omega (arith, a, b))))

  each : (k : ℕ) → start ≤ k → k < to → StandsForItself o l cell text k to
  each k a b = go (before-or-following s.end to)
    where
      s : StandsForItself o l cell text k at
      s = stands k a (omega (arith, b, high)) (λ e. none k a b)

      by : to < s.end → (s.end ≡ suc k) ⊎ ((is_blank_byte (get_or text k 0) ≡ false) × ((j : ℕ) → k ≤ j → j < s.end → get_or text j 0 ≡ get_or text k 0)) → ⊥
      by lt (inl e) = omega (arith, e, lt, b)
      by lt (inr h) =
          let inside = s.within in
          true≢false (sym (blanks to (omega arith) (omega (arith, lt, inside))) ∙ ap is_blank_byte (h.1 to (omega (arith, b)) lt) ∙ h.0)

      go : (s.end ≤ to) ⊎ (to < s.end) → StandsForItself o l cell text k to
      go (inl le) = record { end = s.end; further = s.further; within = le; token = s.token }
      go (inr lt) = absurd (by lt (plain-bytes o l cell text k (omega (arith, b, high, within)) s.end s.token))

  pub reaches-to : Reaches o l cell text start to
  reaches-to = reaches-all o l cell text (to - start) start to (omega arith) low each
