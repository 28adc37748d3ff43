-- The bytes of records are read as these records.
use Rattle.std.proofs.Common.{◌≡◌, ℕ, zero, suc, ◌+◌, ◌-◌, ◌^◌, ◌<◌, ◌≤◌, Bool, true, false, cond, ltb, List, [], ◌∷◌, ◌++◌, length, take, drop, Option, Some, None, refl, ap, ◌∙◌, append_assoc, arith, length-append}
use Rattle.std.specs.Int.{w64, from_le_bytes}
use Rattle.std.specs.List.{AllByRecursion}
use Rattle.std.specs.Str.{IsUtf8, is_utf8}
use Rattle.std.proofs.lemmas.Bool.{le-ltb}
use Rattle.std.proofs.lemmas.List.{take_at, drop_at}
use Rattle.std.proofs.lemmas.List.Concat.{flat_map-cons}
use Rattle.std.proofs.lemmas.Str.{IsUtf8-from_is_utf8}
use Rattle.std.proofs.lemmas.Nat.{from_le_bytes-to_le_bytes_8}
use Rattle.cmark_flat.specs.Records.{FlatRecord, record_bytes, spelled, wide}
use Rattle.cmark_flat.specs.Decode.{◌>>=◌, unused_at, wide_at, text_at, record_at, records_of, records_within, some_if}

-- the fields are in range, and the text is UTF-8
pub record Fits (r : FlatRecord) : Type 0 where
  pub start : r.start < 2 ^ 64
  pub end : r.end < 2 ^ 64
  pub size : length r.text < 2 ^ 64
  pub utf8 : is_utf8 r.text ≡ true

-- eight bytes that stand for a number
number_at : (bytes rest : List ℕ) (n : ℕ) → length bytes ≡ 8 → from_le_bytes w64 bytes ≡ n → wide_at (bytes ++ rest) ≡ Some (n, rest)
number_at bytes rest n len is =
    let long : ltb (length (bytes ++ rest)) 8 ≡ false = le-ltb _ _ (omega (arith, length-append bytes rest)) in
    ap (λ b. cond b None (Some (from_le_bytes w64 (take 8 (bytes ++ rest)), drop 8 (bytes ++ rest)))) long
    ∙ ap (λ t. Some (from_le_bytes w64 t, drop 8 (bytes ++ rest))) (take_at bytes rest 8 len)
    ∙ ap (λ t. Some (from_le_bytes w64 bytes, t)) (drop_at bytes rest 8 len)
    ∙ ap (λ m. Some (m, rest)) is

wide_length : (n : ℕ) → length (wide n) ≡ 8
unfolding wide
wide_length n = refl

wide_value : (n : ℕ) → n < 2 ^ 64 → from_le_bytes w64 (wide n) ≡ n
unfolding wide
wide_value n lt = from_le_bytes-to_le_bytes_8 n lt

wide_again : (n : ℕ) (rest : List ℕ) → n < 2 ^ 64 → wide_at (wide n ++ rest) ≡ Some (n, rest)
wide_again n rest lt = number_at (wide n) rest n (wide_length n) (wide_value n lt)

text_again : (text rest : List ℕ) → is_utf8 text ≡ true → text_at (length text) (text ++ rest) ≡ Some (text, rest)
text_again text rest utf8 =
    let long : ltb (length (text ++ rest)) (length text) ≡ false = le-ltb _ _ (omega (arith, length-append text rest)) in
    let read : List ℕ → List ℕ → Option (List ℕ × List ℕ) = λ t r. some_if (is_utf8 t) (t, r) in
    ap (λ b. cond b None (read (take (length text) (text ++ rest)) (drop (length text) (text ++ rest)))) long
    ∙ ap (λ t. read t (drop (length text) (text ++ rest))) (take_at text rest (length text) refl)
    ∙ ap (λ r. read text r) (drop_at text rest (length text) refl)
    ∙ ap (λ b. some_if b (text, rest)) utf8

-- the bytes of a record, from its range on
regrouped : (a b c d rest : List ℕ) → a ++ b ++ c ++ d ++ rest ≡ a ++ (b ++ (c ++ (d ++ rest)))
regrouped a b c d rest = append_assoc (a ++ b ++ c) d rest ∙ append_assoc (a ++ b) c (d ++ rest) ∙ append_assoc a b (c ++ (d ++ rest))

-- the rest of a record, from its start, its end, its size and its text on
abbrev with_text : (kind tag datum start end : ℕ) → List ℕ × List ℕ → Option (FlatRecord × List ℕ)
with_text kind tag datum start end text = Some (record { kind = kind; tag = tag; datum = datum; start = start; end = end; text = text.0 }, text.1)

abbrev with_size : (kind tag datum start end : ℕ) → ℕ × List ℕ → Option (FlatRecord × List ℕ)
with_size kind tag datum start end size = text_at size.0 size.1 >>= with_text kind tag datum start end

abbrev with_end : (kind tag datum start : ℕ) → ℕ × List ℕ → Option (FlatRecord × List ℕ)
with_end kind tag datum start end = wide_at end.1 >>= with_size kind tag datum start end.0

abbrev with_start : (kind tag datum : ℕ) → ℕ × List ℕ → Option (FlatRecord × List ℕ)
with_start kind tag datum start = wide_at start.1 >>= with_end kind tag datum start.0

from_range : (r : FlatRecord) (rest : List ℕ) → record_at (record_bytes r ++ rest) ≡ wide_at (wide r.start ++ wide r.end ++ wide (length r.text) ++ r.text ++ rest) >>= with_start r.kind r.tag r.datum
unfolding record_at unused_at
from_range r rest = refl

record_again : (r : FlatRecord) (rest : List ℕ) → Fits r → record_at (record_bytes r ++ rest) ≡ Some (r, rest)
record_again r rest fits =
    let after_size : List ℕ = r.text ++ rest in
    let after_end : List ℕ = wide (length r.text) ++ after_size in
    let after_start : List ℕ = wide r.end ++ after_end in
    from_range r rest
    ∙ ap (λ bytes. wide_at bytes >>= with_start r.kind r.tag r.datum) (regrouped (wide r.start) (wide r.end) (wide (length r.text)) r.text rest)
    ∙ ap (λ o. o >>= with_start r.kind r.tag r.datum) (wide_again r.start after_start fits.start)
    ∙ ap (λ o. o >>= with_end r.kind r.tag r.datum r.start) (wide_again r.end after_end fits.end)
    ∙ ap (λ o. o >>= with_size r.kind r.tag r.datum r.start r.end) (wide_again (length r.text) after_size fits.size)
    ∙ ap (λ o. o >>= with_text r.kind r.tag r.datum r.start r.end) (text_again r.text rest fits.utf8)

pub nothing_left : (most : ℕ) → records_within most [] ≡ Some []
unfolding records_within
nothing_left zero = refl
nothing_left (suc most) = refl

one_more : (most : ℕ) (r : FlatRecord) (rest : List ℕ) (rs : List FlatRecord) → Fits r → records_within most rest ≡ Some rs → records_within (suc most) (record_bytes r ++ rest) ≡ Some (r ∷ rs)
unfolding records_within
one_more most r rest rs fits others =
    ap (λ o. o >>= λ first. records_within most first.1 >>= λ more. Some (first.0 ∷ more)) (record_again r rest fits)
    ∙ ap (λ o. o >>= λ more. Some (r ∷ more)) others

again : (rs : List FlatRecord) (spare : ℕ) → AllByRecursion Fits rs → records_within (length rs + spare) (spelled rs) ≡ Some rs
again [] spare fits = nothing_left (0 + spare)
again (r ∷ rs) spare fits =
    let most : length (r ∷ rs) + spare ≡ suc (length rs + spare) = omega arith in
    rw (most, flat_map-cons record_bytes r rs) (one_more (length rs + spare) r (spelled rs) rs fits.0 (again rs spare fits.1))

-- no record is empty
no_more : (rs : List FlatRecord) → length rs ≤ length (spelled rs)
no_more [] = omega arith
no_more (r ∷ rs) = omega (arith, ap length (flat_map-cons record_bytes r rs), length-append (record_bytes r) (spelled rs), no_more rs, some r)
  where
    some : (r : FlatRecord) → 1 ≤ length (record_bytes r)
    some r = omega arith

pub records_again : (rs : List FlatRecord) → AllByRecursion Fits rs → records_of (spelled rs) ≡ Some rs
records_again rs fits =
    let most : length (spelled rs) ≡ length rs + (length (spelled rs) - length rs) = omega (arith, no_more rs) in
    ap (λ n. records_within n (spelled rs)) most ∙ again rs (length (spelled rs) - length rs) fits

is_false : (b : Bool) → ¬ (b ≡ true) → b ≡ false
is_false true h = absurd (h refl)
is_false false h = refl

pub not_utf8 : (bytes : List ℕ) → ¬ (IsUtf8 bytes) → is_utf8 bytes ≡ false
not_utf8 bytes h = is_false (is_utf8 bytes) (λ e. h (IsUtf8-from_is_utf8 bytes e))
