-- Steps through a tag.
use Rattle.std.proofs.Common.{◌≡◌, ℕ, zero, suc, ◌<◌, ◌≤◌, Bool, true, false, ◌==◌, not, List, [], ◌∷◌, length, drop, None, Some, refl, sym, ap, subst, ◌∙◌, arith, rules}
use Rattle.std.proofs.lemmas.Bool.{ne_eqb, not-true, both_ways}
use Rattle.memchr.specs.Find.{is_byte3}
use Rattle.cmark_grammar.specs.Letters.{after_while, after_if}
use Rattle.cmark_grammar.specs.Lines.{is_content}
use Rattle.cmark_grammar.specs.Tags.{without_prefix, after_ending, after_line_feed, after_quotation_mark, after_attribute, after_attributes}
use Rattle.cmark_scan_bytes.proofs.Lists.{or_false, and_true, after_while-on, after_while-off}

-- the attributes of the bytes continue from this rest
pub record Reached (prefix : List ℕ → ℕ) (bytes rest : List ℕ) : Type 0 where
  pub most : ℕ
  pub enough : length rest ≤ most
  pub same : after_attributes prefix most rest ≡ after_attributes prefix (length bytes) bytes

-- one attribute more
pub reached_next : (prefix : List ℕ → ℕ) (bytes rest next : List ℕ) → Reached prefix bytes rest → after_attribute prefix rest ≡ Some next → length next < length rest → Reached prefix bytes next
reached_next prefix bytes rest next r e lt = search rules

-- no further attribute follows
pub reached_all : (prefix : List ℕ → ℕ) (bytes rest : List ℕ) → Reached prefix bytes rest → after_attribute prefix rest ≡ None → rest ≡ after_attributes prefix (length bytes) bytes
reached_all prefix bytes rest r e = go r.most refl
  where
    go : (m : ℕ) → r.most ≡ m → rest ≡ after_attributes prefix (length bytes) bytes
    go zero is = ap (λ k. after_attributes prefix k rest) (sym is) ∙ r.same
    go (suc m) is = sym (ap (λ o. elim o [ None ↦ rest | Some x ↦ after_attributes prefix m x ]) e) ∙ ap (λ k. after_attributes prefix k rest) (sym is) ∙ r.same

-- line endings
content_parts : (b : ℕ) → is_content b ≡ true → ((b == 10) ≡ false) × ((b == 13) ≡ false)
content_parts b e = let h = and_true (not (b == 10)) (not (b == 13)) e in (not-true _ h.0, not-true _ h.1)

apart : (q m b : ℕ) → (q == m) ≡ false → (b == m) ≡ true → (b == q) ≡ false
apart q m b off is = ne_eqb b q (λ same. both_ways (q == m) off (subst (λ x. (x == m) ≡ true) same is))

module _ (prefix : List ℕ → ℕ) (quote : ℕ) where
  quote_skips : (n : ℕ) (bs : List ℕ) → after_quotation_mark prefix quote n bs ≡ after_quotation_mark prefix quote 0 (drop n bs)
  quote_skips zero bs = refl
  quote_skips (suc n) [] = refl
  quote_skips (suc n) (b ∷ bs) = quote_skips n bs

  quote_over : (b : ℕ) (bs : List ℕ) → is_byte3 quote 10 13 b ≡ false → after_quotation_mark prefix quote 0 (b ∷ bs) ≡ after_quotation_mark prefix quote 0 bs
  quote_over b bs e = grind (arith, or_false)

  -- up to a quote or a line ending
  pub quote_to_stop : (bs : List ℕ) → after_quotation_mark prefix quote 0 bs ≡ after_quotation_mark prefix quote 0 (after_while (λ b. not (is_byte3 quote 10 13 b)) bs)
  quote_to_stop [] = refl
  quote_to_stop (b ∷ bs) = go (is_byte3 quote 10 13 b) refl (quote_to_stop bs)
    where
      go : (t : Bool) → is_byte3 quote 10 13 b ≡ t → after_quotation_mark prefix quote 0 bs ≡ after_quotation_mark prefix quote 0 (after_while (λ b. not (is_byte3 quote 10 13 b)) bs)
          → after_quotation_mark prefix quote 0 (b ∷ bs) ≡ after_quotation_mark prefix quote 0 (after_while (λ b. not (is_byte3 quote 10 13 b)) (b ∷ bs))
      go true e h = ap (after_quotation_mark prefix quote 0) (sym (after_while-off (λ b. not (is_byte3 quote 10 13 b)) b bs (ap not e)))
      go false e h = quote_over b bs e ∙ h ∙ ap (after_quotation_mark prefix quote 0) (sym (after_while-on (λ b. not (is_byte3 quote 10 13 b)) b bs (ap not e)))

  -- after a line ending
  feed_next : (b : ℕ) (bs : List ℕ) → (b == quote) ≡ false → (b == 10) ≡ true → after_quotation_mark prefix quote 0 (b ∷ bs) ≡ after_quotation_mark prefix quote 0 (without_prefix prefix bs)
  feed_next b bs other is = cc (quote_skips (prefix bs) bs)

  return_next : (b : ℕ) (bs : List ℕ) → (quote == 10) ≡ false → (b == quote) ≡ false → (b == 10) ≡ false → (b == 13) ≡ true → after_quotation_mark prefix quote 0 (b ∷ bs) ≡ after_quotation_mark prefix quote 0 (without_prefix prefix (after_line_feed bs))
  return_next b bs off other unlike is = grind (arith, quote_skips, feed_next, apart)

  pub quote_next : (stop next : List ℕ) → is_content quote ≡ true → after_ending stop ≡ Some next → after_quotation_mark prefix quote 0 stop ≡ after_quotation_mark prefix quote 0 (without_prefix prefix next)
  quote_next stop next plain e = grind (arith, content_parts, feed_next, apart, return_next)

  -- or at the closing quote
  pub quote_here : (bs : List ℕ) → after_ending (after_while (λ b. not (is_byte3 quote 10 13 b)) bs) ≡ None
      → after_if (λ b. b == quote) (after_while (λ b. not (is_byte3 quote 10 13 b)) bs) ≡ after_quotation_mark prefix quote 0 bs
  quote_here [] none = refl
  quote_here (b ∷ bs) none = go (is_byte3 quote 10 13 b) refl (quote_here bs)
    where
      go : (t : Bool) → is_byte3 quote 10 13 b ≡ t
          → (after_ending (after_while (λ b. not (is_byte3 quote 10 13 b)) bs) ≡ None → after_if (λ b. b == quote) (after_while (λ b. not (is_byte3 quote 10 13 b)) bs) ≡ after_quotation_mark prefix quote 0 bs)
          → after_if (λ b. b == quote) (after_while (λ b. not (is_byte3 quote 10 13 b)) (b ∷ bs)) ≡ after_quotation_mark prefix quote 0 (b ∷ bs)
      go false e h =
          let on = after_while-on (λ b. not (is_byte3 quote 10 13 b)) b bs (ap not e) in
          ap (after_if (λ b. b == quote)) on ∙ h (sym (ap after_ending on) ∙ none) ∙ sym (quote_over b bs e)
      go true e h = grind (arith, after_while-off)
