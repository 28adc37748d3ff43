-- The first place of a byte.
use Rattle.std.proofs.Common.{◌≡◌, ℕ, zero, suc, ◌<◌, Bool, true, false, ◌==◌, ◌&&◌, ◌||◌, List, [], ◌∷◌, length, get_or, Option, Some, None, refl, sym, ap, ◌∙◌, arith}
use Rattle.std.specs.Prelude.{codes, is_some}
use Rattle.memchr.specs.Find.{IsFirstByte, is_byte}
use Rattle.cmark_grammar.specs.HtmlBlocks.{holds}

false_of : (z : Bool) → (z ≡ true → ⊥) → z ≡ false
false_of true never = absurd (never refl)
false_of false never = refl

module _ (mark : ℕ) (bs : List ℕ) where
  pub none-before : (n : ℕ) → IsFirstByte (is_byte mark) bs (Some n) → (k : ℕ) → k < n → (get_or bs k 0 == mark) ≡ false
  none-before n some k lt = false_of _ (some.0.before k (omega arith) lt)

  pub first-within : (n : ℕ) → IsFirstByte (is_byte mark) bs (Some n) → n < length bs
  first-within n some = some.0.high

  pub first-is : (n : ℕ) → IsFirstByte (is_byte mark) bs (Some n) → (get_or bs n 0 == mark) ≡ true
  first-is n some = some.1

  pub none-at-all : IsFirstByte (is_byte mark) bs None → (k : ℕ) → k < length bs → (get_or bs k 0 == mark) ≡ false
  none-at-all none k lt = false_of _ (none k (omega arith) lt)

-- there is a pipe
pipe-none : (bs : List ℕ) → ((k : ℕ) → k < length bs → (get_or bs k 0 == 124) ≡ false) → false ≡ holds (codes "|") bs
pipe-none [] each = refl
pipe-none (b ∷ bs) each = pipe-none bs (λ k lt. each (suc k) (omega arith)) ∙ ap (λ t. (t && true) || holds (codes "|") bs) (sym (each 0 (omega arith)))

pipe-some : (bs : List ℕ) (n : ℕ) → n < length bs → (get_or bs n 0 == 124) ≡ true → true ≡ holds (codes "|") bs
pipe-some [] n lt e = absurd (omega arith)
pipe-some (b ∷ bs) zero lt e = ap (λ t. (t && true) || holds (codes "|") bs) (sym e)
pipe-some (b ∷ bs) (suc n) lt e = go (b == 124) (pipe-some bs n (omega arith) e)
  where
    go : (z : Bool) → true ≡ holds (codes "|") bs → true ≡ ((z && true) || holds (codes "|") bs)
    go true h = refl
    go false h = h

pub pipe-found : (bs : List ℕ) (found : Option ℕ) → IsFirstByte (is_byte 124) bs found → is_some found ≡ holds (codes "|") bs
pipe-found bs None none = pipe-none bs (none-at-all 124 bs none)
pipe-found bs (Some n) some = pipe-some bs n (first-within 124 bs n some) (first-is 124 bs n some)
