-- The bytes of a label's text.
use Rattle.std.proofs.Common.{◌≡◌, ℕ, ◌+◌, Bool, true, false, not, ◌&&◌, cond, List, [], ◌∷◌, refl, sym, ap, ◌∙◌, arith}
use Rattle.std.proofs.lemmas.Bool.{lt-ltb}
use Rattle.std.proofs.lemmas.List.Sums.{sum_by-cons}
use Rattle.std.specs.List.{list_all}
use Rattle.std.specs.Prelude.{nat_lt, count_by}
use Rattle.std.specs.Char.{is_ascii_whitespace}

abbrev words : List ℕ → ℕ
words bs = count_by (λ b. not (is_ascii_whitespace b)) bs

-- some byte is not white space, unless all are
pub words_if_not_white : (bs : List ℕ) → not (list_all is_ascii_whitespace bs) ≡ nat_lt 0 (count_by (λ b. not (is_ascii_whitespace b)) bs)
words_if_not_white [] = refl
words_if_not_white (b ∷ bs) = go (is_ascii_whitespace b) (words_if_not_white bs) ∙ ap (nat_lt 0) (sym (sum_by-cons (λ x. cond (not (is_ascii_whitespace x)) 1 0) b bs))
  where
    go : (z : Bool) → not (list_all is_ascii_whitespace bs) ≡ nat_lt 0 (words bs) → not (z && list_all is_ascii_whitespace bs) ≡ nat_lt 0 (cond (not z) 1 0 + words bs)
    go true following = following ∙ ap (nat_lt 0) (let s : words bs ≡ 0 + words bs = omega arith in s)
    go false following = sym (lt-ltb 0 (1 + words bs) (omega arith))
