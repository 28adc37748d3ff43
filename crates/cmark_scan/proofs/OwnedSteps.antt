-- Bytes without their prefixes.
use Rattle.std.proofs.Common.{◌≡◌, ℕ, zero, suc, ◌-◌, ◌<◌, List, [], ◌∷◌, length, drop, refl, sym, ap, ◌∙◌, arith, length-drop}
use Rattle.cmark_grammar.specs.Tags.{prefix_after}
use Rattle.cmark_grammar.specs.InlineHtml.{without_prefixes}

module _ (prefix : List ℕ → ℕ) where
  none_left : (size : ℕ) → [] ≡ without_prefixes prefix size 0 []
  none_left zero = refl
  none_left (suc size) = refl

  pub skipped : (k size : ℕ) (bs : List ℕ) → without_prefixes prefix size k bs ≡ without_prefixes prefix (size - k) 0 (drop k bs)
  skipped zero size bs = ap (λ n. without_prefixes prefix n 0 bs) (let e : size ≡ size - 0 = omega arith in e)
  skipped (suc k) zero bs = ap (λ n. without_prefixes prefix n 0 (drop (suc k) bs)) (let e : 0 ≡ 0 - suc k = omega arith in e)
  skipped (suc k) (suc size) [] = none_left (suc size - suc k)
  skipped (suc k) (suc size) (b ∷ bs) = skipped k size bs ∙ ap (λ n. without_prefixes prefix n 0 (drop k bs)) (let e : size - k ≡ suc size - suc k = omega arith in e)

  -- one byte more
  pub one_more : (b : ℕ) (bs next : List ℕ) (following : ℕ) → following < suc (length bs) → next ≡ drop (prefix_after prefix b bs) bs
      → b ∷ without_prefixes prefix (length next - following) 0 next ≡ without_prefixes prefix (suc (length bs) - following) 0 (b ∷ bs)
  one_more b bs next following lt is =
      let k : ℕ = prefix_after prefix b bs in
      let left : length next - following ≡ length bs - following - k = let l = length-drop k bs in let m = ap length is in omega arith in
      let size : suc (length bs - following) ≡ suc (length bs) - following = omega arith in
      ap (λ n. b ∷ without_prefixes prefix n 0 next) left
      ∙ ap (λ cs. b ∷ without_prefixes prefix (length bs - following - k) 0 cs) is
      ∙ ap (λ cs. b ∷ cs) (sym (skipped k (length bs - following) bs))
      ∙ ap (λ n. without_prefixes prefix n 0 (b ∷ bs)) size
