-- The first occurrence of a closer.
use Rattle.std.proofs.Common.{◌≡◌, ℕ, zero, suc, ◌+◌, ◌-◌, ◌<◌, ◌≤◌, true, if◌then◌else◌, List, [], ◌∷◌, length, take, drop, None, Some, refl, sym, ap, ◌∙◌, arith}
use Rattle.std.proofs.lemmas.Bool.{false_from_ne_true, and_parts}
use Rattle.std.proofs.lemmas.Slice.Eq.{bytes_eq-Decides}
use Rattle.memchr.specs.Find.{OccursAt, FindsNeedle}
use Rattle.memchr.proofs.lemmas.MatchLemmas.{occurs_at-true, OccursAt-from_part}
use Rattle.cmark_grammar.specs.Letters.{starts, after_first_of}
use Rattle.cmark_scan_bytes.proofs.Lists.{rest_of}

module _ (closer : List ℕ) (some : 0 < length closer) where
  pub starts_here : (bs : List ℕ) → OccursAt bs closer 0 → starts closer bs ≡ true
  starts_here bs h = (and_parts _ _ (occurs_at-true bs closer 0 h)).1

  fits : (n : ℕ) (bs : List ℕ) → length (take n bs) ≡ n → n ≤ length bs
  fits zero bs e = omega arith
  fits (suc n) [] e = absurd (omega arith)
  fits (suc n) (b ∷ bs) e = let h = fits n bs (omega arith) in omega arith

  pub here_starts : (bs : List ℕ) → starts closer bs ≡ true → OccursAt bs closer 0
  here_starts bs e =
      let part : take (length closer) bs ≡ closer = (bytes_eq-Decides _ closer).0 e in
      OccursAt-from_part bs closer 0 (let h = fits (length closer) bs (ap length part) in omega arith) part

  pub onward : (b : ℕ) (bs : List ℕ) (n : ℕ) → OccursAt (b ∷ bs) closer (suc n) → OccursAt bs closer n
  onward b bs n h = grind (arith, fits)

  pub back : (b : ℕ) (bs : List ℕ) (n : ℕ) → OccursAt bs closer n → OccursAt (b ∷ bs) closer (suc n)
  back b bs n h = grind (arith, fits)

  first_found : (bs : List ℕ) (n : ℕ) → OccursAt bs closer n → ((k : ℕ) → k < n → ¬ OccursAt bs closer k) → after_first_of closer bs ≡ Some (drop (n + length closer) bs)
  first_found [] n h before = absurd (let f = h.fits in omega arith)
  first_found (b ∷ bs) zero h before = grind (arith, starts_here)
  first_found (b ∷ bs) (suc n) h before =
      ap (λ t. if t then Some (drop (length closer) (b ∷ bs)) else after_first_of closer bs) (false_from_ne_true _ (λ e. before 0 (omega arith) (here_starts (b ∷ bs) e)))
      ∙ first_found bs n (onward b bs n h) (λ k lt o. before (suc k) (omega arith) (back b bs k o))
      ∙ ap (λ k. Some (drop k (b ∷ bs))) (let e : suc (n + length closer) ≡ suc n + length closer = omega arith in e)

  none_found : (bs : List ℕ) → ((k : ℕ) → k < length bs + 1 → ¬ OccursAt bs closer k) → after_first_of closer bs ≡ None
  none_found [] before = refl
  none_found (b ∷ bs) before =
      ap (λ t. if t then Some (drop (length closer) (b ∷ bs)) else after_first_of closer bs) (false_from_ne_true _ (λ e. before 0 (omega arith) (here_starts (b ∷ bs) e)))
      ∙ none_found bs (λ k lt o. before (suc k) (omega arith) (back b bs k o))

  pub closer_found : (bs : List ℕ) (n : ℕ) → FindsNeedle bs closer 0 (Some n) → Some (take (length bs - (n + length closer)) (drop (n + length closer) bs)) ≡ after_first_of closer bs
  closer_found bs n h = ap Some (rest_of bs (n + length closer)) ∙ sym (first_found bs n h.1 (λ k lt. h.0.before k (omega arith) lt))

  pub no_closer : (bs : List ℕ) → FindsNeedle bs closer 0 None → None ≡ after_first_of closer bs
  no_closer bs h = sym (none_found bs (λ k lt. h k (omega arith) lt))
