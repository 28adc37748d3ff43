-- Numeric character references.
use Rattle.std.specs.Prelude.{nat_le, slice_index, EachIndex}
use Rattle.std.specs.List.{prefix_len}
use Rattle.std.proofs.lemmas.List.{length-take, get_or-take}
use Rattle.std.proofs.lemmas.List.Sums.{prefix_len_passes}
use Rattle.std.specs.Str.{IsUtf8}
use Rattle.std.specs.Char.{OutOfScalarRange, encode_utf8}
use Rattle.std.proofs.lemmas.Str.{IsUtf8-from_ascii}
use Rattle.std.proofs.lemmas.Bool.{or_cases, and_parts, and_left, and_right, and_from, leb-true, le-leb, lt-leb, cases_lt}
use Rattle.std.specs.Option.{IfSome}
use Rattle.cmark_scan_bytes.specs.declared.entity.Entity.{Entity}
use Rattle.cmark_scan_bytes.specs.Shown.{Closes}
use Rattle.cmark_grammar.specs.Letters.{after_if, lower, is_number, is_alphanumeric}
use Rattle.cmark_grammar.specs.Tokens.{is_hexadecimal, is_character, character}
use Rattle.std.proofs.Common.{◌==◌, Option, Some, ◌≡◌, ℕ, zero, suc, ◌*◌, ◌<◌, ◌≤◌, Bool, true, false, ◌||◌, ◌&&◌, List, [], ◌∷◌, length, take, drop, get_or, refl, sym, ap, subst, ◌∙◌, arith, ⊎_elim, if◌then◌else◌}

-- the number of values of this many hexadecimal digits
abbrev pub room : ℕ → ℕ
room zero = 1
room (suc n) = 16 * room n

one_le : (n : ℕ) → 1 ≤ room n
one_le zero = omega arith
one_le (suc n) = let h = one_le n in omega arith

pub room_le : (n m : ℕ) → n ≤ m → room n ≤ room m
room_le zero m le = one_le m
room_le (suc n) zero le = absurd (omega arith)
room_le (suc n) (suc m) le = let h = room_le n m (omega arith) in omega arith

-- digits at the beginning
decimal_is_hexadecimal : (b : ℕ) → is_number b ≡ true → is_hexadecimal b ≡ true
decimal_is_hexadecimal b e = ap (λ t. t || (nat_le 97 (lower b) && nat_le (lower b) 102)) e

passing : (p : ℕ → Bool) (bs : List ℕ) (n k : ℕ) → n ≡ prefix_len p bs → k < n → p (get_or (take n bs) k 0) ≡ true
passing p bs n k is lt = ap p (get_or-take n bs k 0 lt) ∙ prefix_len_passes p bs k 0 (omega arith)

pub decimal_digits : (bs cut : List ℕ) (n : ℕ) → n ≡ prefix_len is_number bs → cut ≡ take n bs → EachIndex cut (λ k. is_hexadecimal (slice_index cut k) ≡ true)
decimal_digits bs cut n is same =
    subst (λ (xs : List ℕ). EachIndex xs (λ k. is_hexadecimal (slice_index xs k) ≡ true)) (sym same) (λ k lt. decimal_is_hexadecimal (get_or (take n bs) k 0) (passing is_number bs n k is (let l = length-take n bs in omega arith)))

pub hexadecimal_digits : (bs cut : List ℕ) (n : ℕ) → n ≡ prefix_len is_hexadecimal bs → cut ≡ take n bs → EachIndex cut (λ k. is_hexadecimal (slice_index cut k) ≡ true)
hexadecimal_digits bs cut n is same =
    subst (λ (xs : List ℕ). EachIndex xs (λ k. is_hexadecimal (slice_index xs k) ≡ true)) (sym same) (λ k lt. passing is_hexadecimal bs n k is (let l = length-take n bs in omega arith))

-- names are ASCII
past : (bs : List ℕ) (i : ℕ) → length bs ≤ i → get_or bs i 0 ≡ 0
past [] zero le = refl
past [] (suc i) le = refl
past (b ∷ bs) zero le = absurd (omega arith)
past (b ∷ bs) (suc i) le = past bs i (omega arith)

letter_is_ascii : (b : ℕ) → is_alphanumeric b ≡ true → b < 128
letter_is_ascii b e = grind (arith, leb-true, and_parts, or_cases)

pub name_is_utf8 : (bs : List ℕ) (n : ℕ) → n ≡ prefix_len is_alphanumeric bs → IsUtf8 (take n bs)
name_is_utf8 bs n is = IsUtf8-from_ascii (take n bs) (λ i. ⊎_elim (inside i) (outside i) (cases_lt i n))
  where
    inside : (i : ℕ) → i < n → get_or (take n bs) i 0 < 128
    inside i lt = letter_is_ascii (get_or (take n bs) i 0) (passing is_alphanumeric bs n i is lt)

    outside : (i : ℕ) → n ≤ i → get_or (take n bs) i 0 < 128
    outside i le = let e = past (take n bs) i (let l = length-take n bs in omega arith) in omega arith

-- numbers that no character has
off : (n : ℕ) → is_character n ≡ false → encode_utf8 65533 ≡ character n
unfolding encode_utf8
off n e = sym (ap (λ t. if t then encode_utf8 n else 239 ∷ 191 ∷ 189 ∷ []) e)

pub zero_is_none : (n : ℕ) → n ≡ 0 → encode_utf8 65533 ≡ character n
unfolding encode_utf8
zero_is_none n e = ap character (sym e)

pub out_of_range : (n : ℕ) → OutOfScalarRange n → encode_utf8 65533 ≡ character n
out_of_range n h = grind (arith, off, and_right, and_from, le-leb, and_left, lt-leb)

-- a numeric reference after its `&#`
after_some : (p : ℕ → Bool) (bs rest : List ℕ) → after_if p bs ≡ Some rest → (b : ℕ) × (bs ≡ b ∷ rest)
after_some p bs rest e = grind arith

numeric_closes : (bs digits : List ℕ) (a b size : ℕ) → bs ≡ a ∷ (b ∷ digits) → Closes digits 2 size → Closes bs 0 size
numeric_closes bs digits a b size is h = grind arith

one_before : (rest digits : List ℕ) → 1 ≤ length rest → digits ≡ drop 1 rest → (b : ℕ) × (rest ≡ b ∷ digits)
one_before [] digits le is = absurd (omega arith)
one_before (b ∷ rest) digits le is = (b, ap (λ cs. b ∷ cs) (sym is))

pub closes_after : (r : Option Entity) (bs rest digits : List ℕ) → IfSome r (λ entity. Closes digits 2 entity.len) → after_if (λ b. b == 38) bs ≡ Some rest → 1 ≤ length rest → digits ≡ drop 1 rest
    → IfSome r (λ entity. Closes bs 0 entity.len)
closes_after r bs rest digits h e le is = grind (arith, after_some, one_before, numeric_closes)

pub named_after : (r : Option Entity) (bs rest : List ℕ) → IfSome r (λ entity. Closes rest 1 entity.len) → after_if (λ b. b == 38) bs ≡ Some rest → IfSome r (λ entity. Closes bs 0 entity.len)
named_after r bs rest h e = grind (arith, after_some)
