-- Offsets between two characters of a text.
use Rattle.std.proofs.Common.{◌≡◌, ℕ, ◌<◌, ◌≤◌, List, ◌++◌, ◌⊎◌, inl, inr, length, take, refl, sym, subst, arith, length-append}
use Rattle.std.proofs.lemmas.Bool.{cases_lt}
use Rattle.std.proofs.lemmas.List.{get_or-take, get_or_append_left, length-take-le}
use Rattle.std.proofs.lemmas.Str.{IsCharBoundary-at_seam}
use Rattle.std.specs.Prelude.{IsCharBoundary, IsUtf8}

-- of the first bytes of a text
pub boundary-front : (bs : List ℕ) (i n : ℕ) → i ≤ n → n ≤ length bs → IsCharBoundary bs i → IsCharBoundary (take n bs) i
boundary-front bs i n order within h =
    let size : length (take n bs) ≡ n = length-take-le n bs within in
    (omega (arith, size), λ lt. let below : i < n = omega (arith, size) in subst (λ b. 128 ≤ b → 192 ≤ b) (sym (get_or-take n bs i 0 below)) (h.1 (omega arith)))

-- of a text that grows
pub boundary-grown : (bs more : List ℕ) (i : ℕ) → IsUtf8 more → IsCharBoundary bs i → IsCharBoundary (bs ++ more) i
boundary-grown bs more i utf8 h = go (cases_lt i (length bs))
  where
    go : (i < length bs) ⊎ (length bs ≤ i) → IsCharBoundary (bs ++ more) i
    go (inl lt) = (omega (arith, length-append bs more), λ _. subst (λ b. 128 ≤ b → 192 ≤ b) (sym (get_or_append_left bs more 0 i lt)) (h.1 lt))
    go (inr ge) = let e : length bs ≡ i = omega (arith, h.0) in subst (IsCharBoundary (bs ++ more)) e (IsCharBoundary-at_seam (bs ++ more) bs more refl utf8)
