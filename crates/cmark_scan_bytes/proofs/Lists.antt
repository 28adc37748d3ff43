-- Facts about lists of bytes, and about the places of bytes in them.
use Rattle.std.proofs.Common.{◌≡◌, ℕ, zero, suc, ◌+◌, ◌-◌, ◌<◌, ◌≤◌, Bool, true, false, ◌||◌, ◌&&◌, not, cond, List, [], ◌∷◌, length, take, drop, get_or, None, Some, refl, sym, ap, ◌∙◌, arith, true≢false, length-drop, take_all}
use Rattle.std.specs.List.{prefix_len}
use Rattle.std.proofs.lemmas.Bool.{false_from_ne_true}
use Rattle.memchr.specs.Find.{IsFirstByte}
use Rattle.cmark_grammar.specs.Letters.{after_while}

-- a rest of some bytes
pub rest_of : (bs : List ℕ) (k : ℕ) → take (length bs - k) (drop k bs) ≡ drop k bs
rest_of bs k = take_all (length bs - k) (drop k bs) (let l = length-drop k bs in omega arith)

pub or_false : (x y : Bool) → (x || y) ≡ false → (x ≡ false) × (y ≡ false)
or_false true y e = absurd (true≢false e)
or_false false y e = (refl, e)

pub and_true : (x y : Bool) → (x && y) ≡ true → (x ≡ true) × (y ≡ true)
and_true true y e = (refl, e)
and_true false y e = absurd (true≢false (sym e))

-- bytes at the beginning that pass
pub after_while-on : (p : ℕ → Bool) (b : ℕ) (bs : List ℕ) → p b ≡ true → after_while p (b ∷ bs) ≡ after_while p bs
after_while-on p b bs e = ap (λ t. drop (cond t (1 + prefix_len p bs) 0) (b ∷ bs)) e ∙ ap (λ n. drop n (b ∷ bs)) (let s : 1 + prefix_len p bs ≡ suc (prefix_len p bs) = omega arith in s)

pub after_while-off : (p : ℕ → Bool) (b : ℕ) (bs : List ℕ) → p b ≡ false → after_while p (b ∷ bs) ≡ b ∷ bs
after_while-off p b bs e = ap (λ t. drop (cond t (1 + prefix_len p bs) 0) (b ∷ bs)) e

-- the first byte that passes
first_at : (test : ℕ → Bool) (bs : List ℕ) (n : ℕ) → n ≤ length bs → ((k : ℕ) → k < n → test (get_or bs k 0) ≡ false) → (n < length bs → test (get_or bs n 0) ≡ true)
    → prefix_len (λ b. not (test b)) bs ≡ n
first_at test [] n le before here = omega arith
first_at test (b ∷ bs) zero le before here = ap (λ t. cond (not t) (1 + prefix_len (λ b. not (test b)) bs) 0) (here (omega arith))
first_at test (b ∷ bs) (suc n) le before here =
    ap (λ t. cond (not t) (1 + prefix_len (λ b. not (test b)) bs) 0) (before 0 (omega arith))
    ∙ (let h = first_at test bs n (omega arith) (λ k lt. before (suc k) (omega arith)) (λ lt. here (omega arith)) in omega arith)

pub first_some : (test : ℕ → Bool) (bs : List ℕ) (n : ℕ) → IsFirstByte test bs (Some n) → prefix_len (λ b. not (test b)) bs ≡ n
first_some test bs n h = first_at test bs n (let l = h.0.high in omega arith) (λ k lt. false_from_ne_true _ (h.0.before k (omega arith) lt)) (λ lt. h.1)

pub first_none : (test : ℕ → Bool) (bs : List ℕ) → IsFirstByte test bs None → prefix_len (λ b. not (test b)) bs ≡ length bs
first_none test bs h = first_at test bs (length bs) (omega arith) (λ k lt. false_from_ne_true _ (h k (omega arith) lt)) (λ lt. absurd (omega arith))

pub from_first : (test : ℕ → Bool) (bs : List ℕ) (n : ℕ) → prefix_len (λ b. not (test b)) bs ≡ n → take (length bs - n) (drop n bs) ≡ after_while (λ b. not (test b)) bs
from_first test bs n e = rest_of bs n ∙ ap (λ k. drop k bs) (sym e)
