-- Bytes that end inside a character, and bytes that are not UTF-8.
use Rattle.std.proofs.Common.{lit≤, lit<, ◌≡◌, ◌≢◌, ◌⊎◌, ◌<◌, ◌≤◌, ◌+◌, ◌-◌, ◌*◌, ◌/◌, ℕ, Bool, true, false, if◌then◌else◌, List, [], ◌∷◌, ◌++◌, take, drop, length, Option, None, Some, slice_index, refl, sym, ap, subst, ◌∙◌, arith, inl, inr, ⊎_elim, append_assoc, append-nil, length-append, length-drop, take-append-drop, take-add, drop_at, take_at}
use Rattle.std.proofs.lemmas.Bool.{and_parts, cases_lt, cases_eq}
use Rattle.std.proofs.lemmas.Bool.Decides.{nat_tests}
use Rattle.std.proofs.lemmas.List.{drop-append-le, take-append-le}
use Rattle.std.proofs.lemmas.Str.{IsUtf8-append, IsUtf8-encode, encode_same, len_utf8_bounds, length-encode}
use Rattle.std.proofs.str.Laws.{Follows, Shape, of1, of2, of3, of4, shape, one, two, three, four}
use Rattle.std.proofs.str.Digits.{high_scalar}
use Rattle.std.proofs.iter.FirstChar.{after_text}
use Rattle.std.specs.Char.{IsScalar, encode_utf8}
use Rattle.std.specs.Int.{is_in_range}
use Rattle.std.specs.Prelude.{IsUtf8, encode_utf8_all, nat_lt, ◌==◌}
use Rattle.std.specs.Str.{IsValidUpTo, StartsWithNoChar}
use Rattle.std.specs.Str.Lossy.{error_len_of_some, second_byte_max, second_byte_min, utf8_error_len}
use lib.Utf8.{low_scalar, next, scalar_cases, scalars}
use Rattle.cmark_stream.specs.Chunks.{BeginsCharacter, IsCutInto, IsNeverUtf8}

-- ## Bytes that make a character

-- a byte that may be the second after this first one
pub record IsSecond (first second : ℕ) : Type 0 where
  pub follows : Follows second
  pub after_e0 : first ≡ 224 → 160 ≤ second
  pub after_ed : first ≡ 237 → second < 160
  pub after_f0 : first ≡ 240 → 144 ≤ second
  pub after_f4 : first ≡ 244 → second < 144

pub second-from : (x y : ℕ) → is_in_range (second_byte_min x) (second_byte_max x) y ≡ true → IsSecond x y
second-from x y h = record {
  follows = (grind (arith, nat_tests, h), grind (arith, nat_tests, h));
  after_e0 = λ e. grind (arith, nat_tests, h, e);
  after_ed = λ e. grind (arith, nat_tests, h, e);
  after_f0 = λ e. grind (arith, nat_tests, h, e);
  after_f4 = λ e. grind (arith, nat_tests, h, e);
}

module _ (x y : ℕ) where
  abbrev char2 : ℕ
  char2 = (x - 192) * 64 + (y - 128)

  pub two-made : 194 ≤ x → x < 224 → Follows y → IsScalar char2 × (encode_utf8 char2 ≡ x ∷ y ∷ [])
  two-made lo hi f =
      let p : x ≡ 192 + char2 / 64 = omega arith in
      let q : y ≡ next char2 = omega arith in
      (low_scalar char2 (omega arith), two char2 (omega arith) (omega arith) ∙ (λ i. sym p i ∷ sym q i ∷ []))

module _ (x y z : ℕ) where
  abbrev char3 : ℕ
  char3 = (x - 224) * 4096 + (y - 128) * 64 + (z - 128)

  not-surrogate : 224 ≤ x → x < 240 → IsSecond x y → Follows z → (char3 < 55296) ⊎ (57344 ≤ char3)
  not-surrogate lo hi s f = go (cases_lt x 237) (cases_lt 237 x)
    where
      go : (x < 237) ⊎ (237 ≤ x) → (237 < x) ⊎ (x ≤ 237) → (char3 < 55296) ⊎ (57344 ≤ char3)
      go (inl less) other = let fo = s.follows in inl (omega arith)
      go (inr ge) (inl more) = let fo = s.follows in inr (omega arith)
      go (inr ge) (inr le) = let fo = s.follows in let e : x ≡ 237 = omega arith in let b = s.after_ed e in inl (omega arith)

  wide-enough : 224 ≤ x → x < 240 → IsSecond x y → Follows z → 2048 ≤ char3
  wide-enough lo hi s f = go (cases_lt 224 x)
    where
      go : (224 < x) ⊎ (x ≤ 224) → 2048 ≤ char3
      go (inl more) = let fo = s.follows in omega arith
      go (inr le) = let fo = s.follows in let e : x ≡ 224 = omega arith in let b = s.after_e0 e in omega arith

  pub three-made : 224 ≤ x → x < 240 → IsSecond x y → Follows z → IsScalar char3 × (encode_utf8 char3 ≡ x ∷ y ∷ z ∷ [])
  three-made lo hi s f =
      let fo = s.follows in
      let p : x ≡ 224 + char3 / 4096 = omega arith in
      let q : y ≡ next (char3 / 64) = omega arith in
      let r : z ≡ next char3 = omega arith in (
        ⊎_elim (λ l. low_scalar char3 l) (λ h. high_scalar char3 (omega arith) h (omega arith)) (not-surrogate lo hi s f),
        three char3 (wide-enough lo hi s f) (omega arith) ∙ (λ i. sym p i ∷ sym q i ∷ sym r i ∷ []),
      )

module _ (x y z w : ℕ) where
  abbrev char4 : ℕ
  char4 = (x - 240) * 262144 + (y - 128) * 4096 + (z - 128) * 64 + (w - 128)

  high : 240 ≤ x → x ≤ 244 → IsSecond x y → Follows z → Follows w → (65536 ≤ char4) × (char4 < 1114112)
  high lo hi s f g = (least (cases_lt 240 x), most (cases_lt x 244))
    where
      least : (240 < x) ⊎ (x ≤ 240) → 65536 ≤ char4
      least (inl more) = let fo = s.follows in omega arith
      least (inr le) = let fo = s.follows in let e : x ≡ 240 = omega arith in let b = s.after_f0 e in omega arith

      most : (x < 244) ⊎ (244 ≤ x) → char4 < 1114112
      most (inl less) = let fo = s.follows in omega arith
      most (inr ge) = let fo = s.follows in let e : x ≡ 244 = omega arith in let b = s.after_f4 e in omega arith

  pub four-made : 240 ≤ x → x ≤ 244 → IsSecond x y → Follows z → Follows w → IsScalar char4 × (encode_utf8 char4 ≡ x ∷ y ∷ z ∷ w ∷ [])
  four-made lo hi s f g =
      let fo = s.follows in
      let range = high lo hi s f g in
      let p : x ≡ 240 + char4 / 262144 = omega arith in
      let q : y ≡ next (char4 / 4096) = omega arith in
      let e : char4 / 64 ≡ (x - 240) * 4096 + (y - 128) * 64 + (z - 128) = omega arith in
      let r : z ≡ next (char4 / 64) = subst (λ (m : ℕ). z ≡ next m) (sym e) (omega arith) in
      let t : w ≡ next char4 = omega arith in
      (high_scalar char4 (omega arith) (omega arith) range.1, four char4 range.0 ∙ (λ i. sym p i ∷ sym q i ∷ sym r i ∷ sym t i ∷ []))

-- ## Bytes that begin no character, and end where one could go on

begun : (c : ℕ) (front more : List ℕ) → IsScalar c → 0 < length more → encode_utf8 c ≡ front ++ more → BeginsCharacter front
begun c front more s cut e = record { character = c; more = more; scalar = s; cut = cut; whole = e }

-- the second byte that goes after any first one
some-second : (x : ℕ) → (x ≡ 224) ⊎ (x ≢ 224) → (x ≡ 240) ⊎ (x ≢ 240) → (y : ℕ) × IsSecond x y
some-second x (inl e) other = (
  160,
  record {
    follows = (lit≤ tt, lit< tt);
    after_e0 = λ _. lit≤ tt;
    after_ed = λ d. absurd (omega (arith, e, d));
    after_f0 = λ d. lit≤ tt;
    after_f4 = λ d. absurd (omega (arith, e, d));
  },
)
some-second x (inr not) (inl e) = (
  144,
  record {
    follows = (lit≤ tt, lit< tt);
    after_e0 = λ d. absurd (not d);
    after_ed = λ _. lit< tt;
    after_f0 = λ _. lit≤ tt;
    after_f4 = λ d. absurd (omega (arith, e, d));
  },
)
some-second x (inr not) (inr neither) = (
  128,
  record {
    follows = (lit≤ tt, lit< tt);
    after_e0 = λ d. absurd (not d);
    after_ed = λ _. lit< tt;
    after_f0 = λ d. absurd (neither d);
    after_f4 = λ _. lit< tt;
  },
)

one-begins : (x : ℕ) → 194 ≤ x → x ≤ 244 → BeginsCharacter (x ∷ [])
one-begins x lo hi = go (cases_lt x 224) (cases_lt x 240)
  where
    second : (y : ℕ) × IsSecond x y
    second = some-second x (cases_eq x 224) (cases_eq x 240)

    go : (x < 224) ⊎ (224 ≤ x) → (x < 240) ⊎ (240 ≤ x) → BeginsCharacter (x ∷ [])
    go (inl less) other = let m = two-made x 128 lo less (lit≤ tt, lit< tt) in begun _ (x ∷ []) (128 ∷ []) m.0 (lit< tt) m.1
    go (inr ge) (inl less) = let m = three-made x second.0 128 ge less second.1 (lit≤ tt, lit< tt) in begun _ (x ∷ []) (second.0 ∷ 128 ∷ []) m.0 (lit< tt) m.1
    go (inr ge) (inr more) = let m = four-made x second.0 128 128 more hi second.1 (lit≤ tt, lit< tt) (lit≤ tt, lit< tt) in begun _ (x ∷ []) (second.0 ∷ 128 ∷ 128 ∷ []) m.0 (lit< tt) m.1

two-begin : (x y : ℕ) → 194 ≤ x → x ≤ 244 → IsSecond x y → StartsWithNoChar (x ∷ y ∷ []) → BeginsCharacter (x ∷ y ∷ [])
two-begin x y lo hi s none = go (cases_lt x 224) (cases_lt x 240)
  where
    go : (x < 224) ⊎ (224 ≤ x) → (x < 240) ⊎ (240 ≤ x) → BeginsCharacter (x ∷ y ∷ [])
    go (inl less) other = let m = two-made x y lo less s.follows in absurd (none _ [] m.0 (sym (append-nil _ ∙ m.1)))
    go (inr ge) (inl less) = let m = three-made x y 128 ge less s (lit≤ tt, lit< tt) in begun _ (x ∷ y ∷ []) (128 ∷ []) m.0 (lit< tt) m.1
    go (inr ge) (inr more) = let m = four-made x y 128 128 more hi s (lit≤ tt, lit< tt) (lit≤ tt, lit< tt) in begun _ (x ∷ y ∷ []) (128 ∷ 128 ∷ []) m.0 (lit< tt) m.1

three-begin : (x y z : ℕ) → 194 ≤ x → x ≤ 244 → IsSecond x y → Follows z → StartsWithNoChar (x ∷ y ∷ z ∷ []) → BeginsCharacter (x ∷ y ∷ z ∷ [])
three-begin x y z lo hi s f none = go (cases_lt x 224) (cases_lt x 240)
  where
    go : (x < 224) ⊎ (224 ≤ x) → (x < 240) ⊎ (240 ≤ x) → BeginsCharacter (x ∷ y ∷ z ∷ [])
    go (inl less) other = let m = two-made x y lo less s.follows in absurd (none _ (z ∷ []) m.0 (sym (ap (λ l. l ++ (z ∷ [])) m.1)))
    go (inr ge) (inl less) = let m = three-made x y z ge less s f in absurd (none _ [] m.0 (sym (append-nil _ ∙ m.1)))
    go (inr ge) (inr more) = let m = four-made x y z 128 more hi s f (lit≤ tt, lit< tt) in begun _ (x ∷ y ∷ z ∷ []) (128 ∷ []) m.0 (lit< tt) m.1

some-is-none : (n : ℕ) → Some n ≡ None → ⊥
some-is-none n e = cc

-- a test that finds no fault
passed : (b : Bool) (o : Option ℕ) (n : ℕ) → (if b then o else Some n) ≡ None → (b ≡ true) × (o ≡ None)
passed true o n e = (refl, e)
passed false o n e = absurd (some-is-none n e)

first-from : (x : ℕ) → is_in_range 0xC2 0xF4 x ≡ true → (194 ≤ x) × (x ≤ 244)
first-from x h = (grind (arith, nat_tests, h), grind (arith, nat_tests, h))

later-from : (z : ℕ) → is_in_range 0x80 0xBF z ≡ true → Follows z
later-from z h = (grind (arith, nat_tests, h), grind (arith, nat_tests, h))

longer : (bs : List ℕ) (n : ℕ) (o : Option ℕ) → n ≤ length bs → (if nat_lt (length bs) n then None else o) ≡ None → o ≡ None
longer bs n o le e = let more : nat_lt (length bs) n ≡ false = grind (arith, nat_tests) in ap (λ b. if b then None else o) (sym more) ∙ e

begins : (k : List ℕ) → 0 < length k → StartsWithNoChar k → error_len_of_some k ≡ None → BeginsCharacter k
begins [] some none ends = absurd (omega (arith, some))
begins (x ∷ []) some none ends =
    let first = passed (is_in_range 0xC2 0xF4 x) _ 1 ends in
    let range = first-from x first.0 in
    one-begins x range.0 range.1
begins (x ∷ y ∷ []) some none ends =
    let first = passed (is_in_range 0xC2 0xF4 x) _ 1 ends in
    let range = first-from x first.0 in
    let second = passed (is_in_range (second_byte_min x) (second_byte_max x) y) _ 1 first.1 in
    two-begin x y range.0 range.1 (second-from x y second.0) none
begins (x ∷ y ∷ z ∷ []) some none ends =
    let first = passed (is_in_range 0xC2 0xF4 x) _ 1 ends in
    let range = first-from x first.0 in
    let second = passed (is_in_range (second_byte_min x) (second_byte_max x) y) _ 1 first.1 in
    let third = passed (is_in_range 0x80 0xBF z) _ 2 second.1 in
    three-begin x y z range.0 range.1 (second-from x y second.0) (later-from z third.0) none
begins (x ∷ y ∷ z ∷ w ∷ rest) some none ends =
    let bs = x ∷ y ∷ z ∷ w ∷ rest in
    let first = passed (is_in_range 0xC2 0xF4 x) _ 1 ends in
    let second = passed (is_in_range (second_byte_min x) (second_byte_max x) y) _ 1 (longer bs 2 _ (omega arith) first.1) in
    let third = passed (is_in_range 0x80 0xBF z) _ 2 (longer bs 3 _ (omega arith) second.1) in
    absurd (some-is-none 3 (longer bs 4 _ (omega arith) third.1))

-- ## The first bytes of a character end where it could go on

-- of n bytes that begin x, y, z and are one character
record IsOneCharacter (n x y z : ℕ) : Type 0 where
  pub first : 1 < n → (194 ≤ x) × (x ≤ 244)
  pub second : 2 < n → IsSecond x y
  pub third : 3 < n → Follows z

abbrev AreOneCharacter : List ℕ → Type 0
AreOneCharacter bs = IsOneCharacter (length bs) (slice_index bs 0) (slice_index bs 1) (slice_index bs 2)

-- no shorter bytes would do
past-one : (c : ℕ) → 1 < length (encode_utf8 c) → 128 ≤ c
past-one c h = ⊎_elim (λ l. absurd (omega (arith, ap length (one c l)))) (λ l. l) (cases_lt c 128)

past-two : (c : ℕ) → 2 < length (encode_utf8 c) → 2048 ≤ c
past-two c h = ⊎_elim (λ l. absurd (omega (arith, ap length (two c (past-one c (omega arith)) l)))) (λ l. l) (cases_lt c 2048)

past-three : (c : ℕ) → 3 < length (encode_utf8 c) → 65536 ≤ c
past-three c h = ⊎_elim (λ l. absurd (omega (arith, ap length (three c (past-two c (omega arith)) l)))) (λ l. l) (cases_lt c 65536)

below-surrogates : (c : ℕ) → IsScalar c → c < 57344 → c < 55296
below-surrogates c s less = ⊎_elim (λ l. l) (λ h. absurd (omega (arith, h.0))) (scalar_cases c s)

within-unicode : (c : ℕ) → IsScalar c → c < 1114112
within-unicode c s = ⊎_elim (λ l. omega arith) (λ h. h.1) (scalar_cases c s)

one-character : (c : ℕ) → IsScalar c → Shape c → AreOneCharacter (encode_utf8 c)
one-character c s (of1 l e) = subst AreOneCharacter (sym e) (record { first = λ t. absurd (omega arith); second = λ t. absurd (omega arith); third = λ t. absurd (omega arith) })
one-character c s (of2 a b l u f is e) =
    let least = past-one c (omega (arith, ap length e)) in
    subst AreOneCharacter (sym e) (record { first = λ t. (omega arith, omega arith); second = λ t. absurd (omega arith); third = λ t. absurd (omega arith) })
one-character c s (of3 a b d l u f g is e) =
    let least = past-two c (omega (arith, ap length e)) in
    subst AreOneCharacter (sym e) (record {
      first = λ t. (omega arith, omega arith);
      second = λ t. record {
        follows = f;
        after_e0 = λ k. omega arith;
        after_ed = λ k. let low = below-surrogates c s (omega arith) in omega arith;
        after_f0 = λ k. absurd (omega arith);
        after_f4 = λ k. absurd (omega arith);
      };
      third = λ t. absurd (omega arith);
    })
one-character c s (of4 a b d x l u f g h is e) =
    let least = past-three c (omega (arith, ap length e)) in
    let most = within-unicode c s in
    subst AreOneCharacter (sym e) (record {
      first = λ t. (omega arith, omega arith);
      second = λ t. record {
        follows = f;
        after_e0 = λ k. absurd (omega arith);
        after_ed = λ k. absurd (omega arith);
        after_f0 = λ k. omega arith;
        after_f4 = λ k. omega arith;
      };
      third = λ t. g;
    })

first-into : (x : ℕ) → 194 ≤ x → x ≤ 244 → is_in_range 0xC2 0xF4 x ≡ true
first-into x lo hi = grind (arith, nat_tests)

second-into : (x y : ℕ) → IsSecond x y → is_in_range (second_byte_min x) (second_byte_max x) y ≡ true
second-into x y s = let f = s.follows in let a = s.after_e0 in let b = s.after_ed in let c = s.after_f0 in let d = s.after_f4 in grind (arith, nat_tests, f, a, b, c, d)

later-into : (z : ℕ) → Follows z → is_in_range 0x80 0xBF z ≡ true
later-into z f = grind (arith, nat_tests, f)

goes-on : (b : Bool) (o : Option ℕ) (n : ℕ) → b ≡ true → o ≡ None → (if b then o else Some n) ≡ None
goes-on b o n is e = ap (λ t. if t then o else Some n) is ∙ e

front-ends : (c : ℕ) (front more : List ℕ) → IsScalar c → 0 < length front → 0 < length more → encode_utf8 c ≡ front ++ more → error_len_of_some front ≡ None
front-ends c [] more s some later e = absurd (omega (arith, some))
front-ends c (x ∷ []) more s some later e =
    let h = subst AreOneCharacter e (one-character c s (shape c (scalar_cases c s))) in
    let first = h.first (omega (arith, later)) in
    goes-on (is_in_range 0xC2 0xF4 x) None 1 (first-into x first.0 first.1) refl
front-ends c (x ∷ y ∷ []) more s some later e =
    let h = subst AreOneCharacter e (one-character c s (shape c (scalar_cases c s))) in
    let first = h.first (omega (arith, later)) in
    let second = h.second (omega (arith, later)) in
    goes-on (is_in_range 0xC2 0xF4 x) _ 1 (first-into x first.0 first.1)
    (goes-on (is_in_range (second_byte_min x) (second_byte_max x) y) None 1 (second-into x y second) refl)
front-ends c (x ∷ y ∷ z ∷ []) more s some later e =
    let h = subst AreOneCharacter e (one-character c s (shape c (scalar_cases c s))) in
    let first = h.first (omega (arith, later)) in
    let second = h.second (omega (arith, later)) in
    let third = h.third (omega (arith, later)) in
    goes-on (is_in_range 0xC2 0xF4 x) _ 1 (first-into x first.0 first.1)
    (goes-on (is_in_range (second_byte_min x) (second_byte_max x) y) _ 1 (second-into x y second)
    (goes-on (is_in_range 0x80 0xBF z) None 2 (later-into z third) refl))
front-ends c (x ∷ y ∷ z ∷ w ∷ rest) more s some later e =
    let most = (len_utf8_bounds c).1 in
    absurd (omega (arith, later, most, length-encode c, ap length e, length-append (x ∷ y ∷ z ∷ w ∷ rest) more))

-- ## Bytes after the longest text at the front

module _ (bs : List ℕ) (n : ℕ) (v : IsValidUpTo bs n) where
  abbrev rest : List ℕ
  rest = drop n bs

  within : n < length bs
  within = v.short

  some-left : 0 < length rest
  some-left = let w = within in omega (arith, length-drop n bs)

  -- no character begins them
  no-character : StartsWithNoChar rest
  no-character c more s e =
      let size = length (encode_utf8 c) in
      let front : take size rest ≡ encode_utf8 c = ap (take size) e ∙ take_at (encode_utf8 c) more size refl in
      v.longest (n + size) (omega (arith, length-encode c, (len_utf8_bounds c).0))
      (subst IsUtf8 (sym (take-add n size bs ∙ ap (λ l. take n bs ++ l) front)) (IsUtf8-append (take n bs) (encode_utf8 c) v.front (IsUtf8-encode c s)))

  some-error : utf8_error_len rest ≡ error_len_of_some rest
  unfolding utf8_error_len
  some-error = let e : length rest == 0 ≡ false = let s = some-left in grind (arith, nat_tests) in ap (λ b. if b then None else error_len_of_some rest) e

  -- if they end where a character could go on, they begin one
  pub cut-into : (text last : List ℕ) → text ≡ take n bs → last ≡ drop n bs → utf8_error_len rest ≡ None → IsCutInto bs text last
  cut-into text last e f ends = record {
    joined = sym (take-append-drop n bs) ∙ (λ i. sym e i ++ sym f i);
    utf8 = subst IsUtf8 (sym e) v.front;
    begins = subst BeginsCharacter (sym f) (begins rest some-left no-character (sym some-error ∙ ends));
  }

  module _ (more : List ℕ) (size : ℕ) (fault : utf8_error_len rest ≡ Some size) where
    no-first : (cs : List ℕ) → scalars cs ≡ true → encode_utf8_all cs ≡ rest ++ more → ⊥
    no-first [] all e = omega (arith, some-left, ap length e, length-append rest more)
    no-first (c ∷ cs) all e = ⊎_elim short long (cases_lt (length rest) (length (encode_utf8 c)))
      where
        s : IsScalar c
        s = (and_parts _ _ all).0

        char : List ℕ
        char = encode_utf8 c

        short : length rest < length (encode_utf8 c) → ⊥
        short less =
            let k = length rest in
            let front : take k (encode_utf8 c) ≡ rest = sym (take-append-le k (encode_utf8 c) (encode_utf8_all cs) (omega arith)) ∙ ap (take k) e ∙ take_at rest more k refl in
            let parts : encode_utf8 c ≡ rest ++ drop k (encode_utf8 c) = sym (take-append-drop k (encode_utf8 c)) ∙ ap (λ l. l ++ drop k (encode_utf8 c)) front in
            let none = front-ends c rest (drop k (encode_utf8 c)) s some-left (omega (arith, length-drop k (encode_utf8 c))) parts in
            some-is-none size (sym fault ∙ some-error ∙ none)

        long : length (encode_utf8 c) ≤ length rest → ⊥
        long le =
            let k = length (encode_utf8 c) in
            let front : take k rest ≡ encode_utf8 c = sym (take-append-le k rest more le) ∙ ap (take k) (sym e) ∙ take_at (encode_utf8 c) (encode_utf8_all cs) k refl in
            no-character c (drop k rest) s (sym (take-append-drop k rest) ∙ ap (λ l. l ++ drop k rest) front)

    -- if a byte of them is a fault, no bytes after them mend it
    never : IsUtf8 (bs ++ more) → ⊥
    never u =
        let w = within in
        let all = after_text (bs ++ more) n u (subst IsUtf8 (sym (take-append-le n bs more (omega arith))) v.front) in
        let text : IsUtf8 (rest ++ more) = subst IsUtf8 (drop-append-le n bs more (omega arith)) all in
        no-first text.0 text.1.0 text.1.1

  pub never-utf8 : (size : ℕ) → utf8_error_len rest ≡ Some size → IsNeverUtf8 bs
  never-utf8 size fault more = never more size fault

-- nothing begins any character
pub nothing-begins : BeginsCharacter []
nothing-begins = begun 65 [] (65 ∷ []) (low_scalar 65 (lit< tt)) (lit< tt) (one 65 (lit< tt))

-- a text ends with a whole character
pub cut-nowhere : (bs text last : List ℕ) → text ≡ bs → last ≡ [] → IsUtf8 bs → IsCutInto bs text last
cut-nowhere bs text last e none u = record {
  joined = sym e ∙ sym (append-nil text) ∙ ap (λ l. text ++ l) (sym none);
  utf8 = subst IsUtf8 (sym e) u;
  begins = subst BeginsCharacter (sym none) nothing-begins;
}

-- ## Bytes after a text

-- bytes that are never UTF-8 are not after a text either
pub never-after : (text bytes : List ℕ) → IsUtf8 text → IsNeverUtf8 bytes → IsNeverUtf8 (text ++ bytes)
never-after text bytes u never more v =
    let all = subst IsUtf8 (append_assoc text bytes more) v in
    let front = subst IsUtf8 (sym (take_at text (bytes ++ more) (length text) refl)) u in
    never more (subst IsUtf8 (drop_at text (bytes ++ more) (length text) refl) (after_text (text ++ (bytes ++ more)) (length text) all front))

-- a text and the first bytes of a character become a text
pub can-be-whole : (bytes text last : List ℕ) → IsCutInto bytes text last → ¬ (IsNeverUtf8 bytes)
can-be-whole bytes text last h never =
    let b = h.begins in
    let character = subst IsUtf8 b.whole (IsUtf8-encode b.character b.scalar) in
    let all = IsUtf8-append text (last ++ b.more) h.utf8 character in
    never b.more (subst IsUtf8 (sym (append_assoc text last b.more) ∙ ap (λ l. l ++ b.more) (sym h.joined)) all)

-- ## One cut

-- no text begins the first bytes of a character
no-text-begins : (last : List ℕ) → BeginsCharacter last → (rest : List ℕ) (cs : List ℕ) → encode_utf8_all cs ++ rest ≡ last → cs ≡ []
no-text-begins last h rest [] e = refl
no-text-begins last h rest (d ∷ ds) e =
    let later = (encode_utf8_all ds ++ rest) ++ h.more in
    let same : encode_utf8 h.character ++ [] ≡ encode_utf8 d ++ later =
    append-nil (encode_utf8 h.character) ∙ h.whole ∙ ap (λ l. l ++ h.more) (sym e ∙ append_assoc (encode_utf8 d) (encode_utf8_all ds) rest) ∙ append_assoc (encode_utf8 d) (encode_utf8_all ds ++ rest) h.more in
    let none = ap length (encode_same h.character d [] later same).1 in
    let cut = h.cut in
    absurd (omega (arith, none, cut, length-append (encode_utf8_all ds ++ rest) h.more))

module _ (bytes text last text' last' : List ℕ) (h : IsCutInto bytes text last) (k : IsCutInto bytes text' last') where
  -- of two cuts the first is not before the other
  not-before : length text ≤ length text' → text ≡ text'
  not-before le =
      let n = length text in
      let front : take n text' ≡ text = sym (take-append-le n text' last' le) ∙ ap (take n) (sym k.joined ∙ h.joined) ∙ take_at text last n refl in
      let middle = drop n text' in
      let split : text' ≡ text ++ middle = sym (take-append-drop n text') ∙ ap (λ l. l ++ middle) front in
      let utf8 = after_text text' n k.utf8 (subst IsUtf8 (sym front) h.utf8) in
      let rest : middle ++ last' ≡ last = sym (drop-append-le n text' last' le) ∙ ap (drop n) (sym k.joined ∙ h.joined) ∙ drop_at text last n refl in
      let none : utf8.0 ≡ [] = no-text-begins last h.begins last' utf8.0 (ap (λ l. l ++ last') utf8.1.1 ∙ rest) in
      let empty : middle ≡ [] = sym utf8.1.1 ∙ ap encode_utf8_all none in
      sym (split ∙ ap (λ l. text ++ l) empty ∙ append-nil text)

pub one-cut : (bytes text last text' last' : List ℕ) → IsCutInto bytes text last → IsCutInto bytes text' last' → (text ≡ text') × (last ≡ last')
one-cut bytes text last text' last' h k =
    let same : text ≡ text' = ⊎_elim
    (λ (less : length text < length text'). not-before bytes text last text' last' h k (omega arith))
    (λ (ge : length text' ≤ length text). sym (not-before bytes text' last' text last k h ge))
    (cases_lt (length text) (length text')) in
    let n = length text in
    (same, sym (drop_at text last n refl) ∙ ap (drop n) (sym h.joined ∙ k.joined) ∙ drop_at text' last' n (ap length (sym same)))
