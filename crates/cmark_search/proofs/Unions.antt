-- The bytes of two sets.
use Rattle.std.proofs.Common.{◌≡◌, ℕ, zero, suc, ◌/◌, ◌%◌, ◌<◌, Bool, true, false, ◌==◌, ◌&&◌, ◌||◌, nat_lt, max, List, length, get_or, take, take_all, refl, ap, ◌∙◌, arith, bit_or}
use Rattle.std.specs.Int.{bit_at}
use Rattle.std.specs.Simd.Lanes.{zip2}
use Rattle.std.proofs.lemmas.Nat.Bits.{bit_at_or, bit_at-lt}
use Rattle.std.proofs.lemmas.Simd.{get_or-zip2}
use Rattle.cmark_search.specs.Sets.{in_rows}

either_bit : (x y : ℕ) → x < 2 → y < 2 → (max x y == 1) ≡ ((x == 1) || (y == 1))
either_bit zero zero l r = refl
either_bit zero (suc zero) l r = refl
either_bit (suc zero) zero l r = refl
either_bit (suc zero) (suc zero) l r = refl
either_bit (suc (suc x)) y l r = absurd (omega arith)
either_bit zero (suc (suc y)) l r = absurd (omega arith)
either_bit (suc zero) (suc (suc y)) l r = absurd (omega arith)

and_of_either : (t x y : Bool) → (t && (x || y)) ≡ ((t && x) || (t && y))
and_of_either true x y = refl
and_of_either false x y = refl

joined : (a b : List ℕ) → length a ≡ 16 → length b ≡ 16 → (byte : ℕ) → in_rows (zip2 bit_or a b) byte ≡ (in_rows a byte || in_rows b byte)
joined a b long_a long_b byte =
    let x : ℕ = get_or a (byte % 16) 0 in
    let y : ℕ = get_or b (byte % 16) 0 in
    let high : ℕ = byte / 16 in
    ap (λ row. nat_lt high 8 && (bit_at row high == 1)) (get_or-zip2 bit_or a b (byte % 16) 0 0 0 (omega (arith, long_a)) (omega (arith, long_b)))
    ∙ ap (λ bit. nat_lt high 8 && (bit == 1)) (bit_at_or x y high)
    ∙ ap (λ is. nat_lt high 8 && is) (either_bit (bit_at x high) (bit_at y high) (bit_at-lt x high) (bit_at-lt y high))
    ∙ and_of_either (nat_lt high 8) (bit_at x high == 1) (bit_at y high == 1)

-- the rows were read as vectors
pub joined-read : (a b : List ℕ) → length a ≡ 16 → length b ≡ 16 → (byte : ℕ) → in_rows (zip2 bit_or (take 16 a) (take 16 b)) byte ≡ (in_rows a byte || in_rows b byte)
joined-read a b long_a long_b byte =
    ap (λ (l : List ℕ). in_rows (zip2 bit_or l (take 16 b)) byte) (take_all 16 a (omega (arith, long_a)))
    ∙ ap (λ (l : List ℕ). in_rows (zip2 bit_or a l) byte) (take_all 16 b (omega (arith, long_b)))
    ∙ joined a b long_a long_b byte
