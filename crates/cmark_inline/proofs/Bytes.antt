-- Bytes at an offset of a text, and runs of them.
use Rattle.std.proofs.Common.{◌≡◌, ℕ, zero, suc, ◌+◌, ◌-◌, ◌<◌, ◌≤◌, ◌==◌, ◌||◌, Bool, true, false, List, [], ◌∷◌, length, take, drop, get_or, refl, sym, ap, ◌∙◌, arith, cond, length-drop}
use Rattle.std.specs.List.{prefix_len, take_while}
use Rattle.std.specs.Prelude.{reverse}
use Rattle.std.proofs.Math.Seq.{drop-cons, take-suc}
use Rattle.std.proofs.lemmas.Bool.{eq-eqb}
use Rattle.std.proofs.lemmas.List.{length-take-le, reverse-append, get_or-drop}
use Rattle.std.proofs.lemmas.List.Sums.{take_while-cons}
use Rattle.cmark_grammar.specs.Columns.{is_blank_byte}
use Rattle.cmark_grammar.specs.Letters.{first_is}
use Rattle.cmark_grammar.specs.LinkDefinitions.{after_leading_blanks}

-- a run with one byte more
pub prefix-more : (p : ℕ → Bool) (bs : List ℕ) (k : ℕ) → k < length bs → p (get_or bs k 0) ≡ true → prefix_len p (drop k bs) ≡ 1 + prefix_len p (drop (k + 1) bs)
prefix-more p bs k lt is =
    ap (prefix_len p) (drop-cons bs k 0 lt)
    ∙ ap (λ t. cond t (1 + prefix_len p (drop (suc k) bs)) 0) is
    ∙ ap (λ n. 1 + prefix_len p (drop n bs)) (let e : suc k ≡ k + 1 = omega arith in e)

-- the first byte from an offset on
pub first-at : (p : ℕ → Bool) (bs : List ℕ) (k : ℕ) → k < length bs → first_is p (drop k bs) ≡ p (get_or bs k 0)
first-at p bs k lt = ap (first_is p) (drop-cons bs k 0 lt)

none-left : (bs : List ℕ) (k : ℕ) → length bs ≤ k → drop k bs ≡ []
none-left [] zero le = refl
none-left [] (suc k) le = refl
none-left (b ∷ bs) zero le = absurd (omega (arith, le))
none-left (b ∷ bs) (suc k) le = none-left bs k (let e : length bs ≤ k = omega (arith, le) in e)

pub first-past : (p : ℕ → Bool) (bs : List ℕ) (k : ℕ) → length bs ≤ k → first_is p (drop k bs) ≡ false
first-past p bs k le = ap (first_is p) (none-left bs k le)

-- the leading blanks are the first `n` bytes, if the next one is no blank
pub blanks-are : (bs : List ℕ) (n : ℕ) → n ≤ length bs → ((k : ℕ) → k < n → is_blank_byte (get_or bs k 0) ≡ true) → is_blank_byte (get_or bs n 0) ≡ false → take_while is_blank_byte bs ≡ take n bs
blanks-are [] zero le all e = refl
blanks-are [] (suc n) le all e = absurd (omega (arith, le))
blanks-are (b ∷ bs) zero le all e = take_while-cons is_blank_byte b bs ∙ ap (λ t. cond t (b ∷ take_while is_blank_byte bs) []) e
blanks-are (b ∷ bs) (suc n) le all e =
    take_while-cons is_blank_byte b bs
    ∙ ap (λ t. cond t (b ∷ take_while is_blank_byte bs) []) (all 0 (omega arith))
    ∙ ap (λ l. b ∷ l) (blanks-are bs n (let q : n ≤ length bs = omega (arith, le) in q) (λ k lt. all (suc k) (let q : suc k < suc n = omega (arith, lt) in q)) e)

pub following-are : (bs : List ℕ) (n : ℕ) → n ≤ length bs → ((k : ℕ) → k < n → is_blank_byte (get_or bs k 0) ≡ true) → is_blank_byte (get_or bs n 0) ≡ false → after_leading_blanks bs ≡ drop n bs
following-are bs n le all e = ap (λ l. drop (length l) bs) (blanks-are bs n le all e) ∙ ap (λ k. drop k bs) (length-take-le n bs le)

-- one blank more, and then a byte that is no blank
pub following-more : (bs : List ℕ) (k : ℕ) → k < length bs → is_blank_byte (get_or bs k 0) ≡ true → after_leading_blanks (drop k bs) ≡ after_leading_blanks (drop (k + 1) bs)
following-more bs k lt is =
    let rest : List ℕ = drop (suc k) bs in
    let b : ℕ = get_or bs k 0 in
    ap after_leading_blanks (drop-cons bs k 0 lt)
    ∙ ap (λ l. drop (length l) (b ∷ rest)) (take_while-cons is_blank_byte b rest ∙ ap (λ t. cond t (b ∷ take_while is_blank_byte rest) []) is)
    ∙ ap (λ n. after_leading_blanks (drop n bs)) (let e : suc k ≡ k + 1 = omega arith in e)

pub following-none : (bs : List ℕ) (k : ℕ) → k < length bs → is_blank_byte (get_or bs k 0) ≡ false → after_leading_blanks (drop k bs) ≡ drop k bs
following-none bs k lt is =
    let rest : List ℕ = drop (suc k) bs in
    let b : ℕ = get_or bs k 0 in
    let none : take_while is_blank_byte (b ∷ rest) ≡ [] = take_while-cons is_blank_byte b rest ∙ ap (λ t. cond t (b ∷ take_while is_blank_byte rest) []) is in
    ap after_leading_blanks (drop-cons bs k 0 lt) ∙ ap (λ l. drop (length l) (b ∷ rest)) none ∙ sym (drop-cons bs k 0 lt)

pub following-end : (bs : List ℕ) (k : ℕ) → length bs ≤ k → after_leading_blanks (drop k bs) ≡ drop k bs
following-end bs k le = ap after_leading_blanks (none-left bs k le) ∙ sym (none-left bs k le)

-- the last byte before an offset
pub last-before : (p : ℕ → Bool) (bs : List ℕ) (at : ℕ) → 0 < at → at ≤ length bs → first_is p (reverse (take at bs)) ≡ p (get_or bs (at - 1) 0)
last-before p bs zero some le = absurd (omega (arith, some))
last-before p bs (suc k) some le =
    ap (λ l. first_is p (reverse l)) (take-suc bs k 0 (let q : k < length bs = omega (arith, le) in q))
    ∙ ap (first_is p) (reverse-append (take k bs) (get_or bs k 0 ∷ []))
    ∙ ap (λ n. p (get_or bs n 0)) (let q : k ≡ suc k - 1 = omega arith in q)

-- tests of bytes
or-assoc : (x y z : Bool) → ((x || y) || z) ≡ (x || (y || z))
or-assoc true y z = refl
or-assoc false y z = refl

-- a run of bytes that pass a test, up to a byte that does not
pub prefix-run : (p : ℕ → Bool) (bs : List ℕ) (n : ℕ) → n ≤ length bs → ((k : ℕ) → k < n → p (get_or bs k 0) ≡ true) → (n < length bs → p (get_or bs n 0) ≡ false) → prefix_len p bs ≡ n
prefix-run p [] zero le all stop = refl
prefix-run p [] (suc n) le all stop = absurd (omega (arith, le))
prefix-run p (b ∷ bs) zero le all stop = ap (λ t. cond t (1 + prefix_len p bs) 0) (stop (omega arith))
prefix-run p (b ∷ bs) (suc n) le all stop =
    ap (λ t. cond t (1 + prefix_len p bs) 0) (all 0 (omega arith))
    ∙ (let i = prefix-run p bs n (let q : n ≤ length bs = omega (arith, le) in q) (λ k lt. all (suc k) (let q : suc k < suc n = omega (arith, lt) in q)) (λ lt. stop (let q : suc n < length (b ∷ bs) = omega (arith, lt) in q)) in
    let q : 1 + prefix_len p bs ≡ suc n = omega (arith, i) in q)

pub run-size : (text bytes : List ℕ) (at end delimiter : ℕ) → bytes ≡ text → at < end → end ≤ length bytes → ((k : ℕ) → at ≤ k → k < end → get_or bytes k 0 ≡ delimiter) → (end < length bytes → (get_or bytes end 0 == delimiter) ≡ false)
    → end ≡ at + prefix_len (λ b. b == get_or text at 0) (drop at text)
run-size text bytes at end delimiter same lt le all stop =
    let first : get_or bytes at 0 ≡ delimiter = all at (omega arith) lt in
    let n : ℕ = end - at in
    let d = length-drop at bytes in
    let i = prefix-run (λ b. b == delimiter) (drop at bytes) n (let q : n ≤ length (drop at bytes) = omega (arith, d, le, lt) in q)
    (λ k h. ap (λ b. b == delimiter) (get_or-drop at bytes k 0 ∙ all (at + k) (let q : at ≤ at + k = omega arith in q) (let q : at + k < end = omega (arith, h, lt) in q)) ∙ eq-eqb delimiter delimiter refl)
    (λ h. ap (λ b. b == delimiter) (get_or-drop at bytes n 0 ∙ ap (λ k. get_or bytes k 0) (let q : at + n ≡ end = omega (arith, lt) in q)) ∙ stop (let q : end < length bytes = omega (arith, h, d, lt) in q)) in
    (let q : end ≡ at + prefix_len (λ b. b == delimiter) (drop at bytes) = omega (arith, i, lt) in q)
    ∙ ap (λ m. at + prefix_len (λ b. b == m) (drop at bytes)) (sym first)
    ∙ ap (λ bs. at + prefix_len (λ b. b == get_or bs at 0) (drop at bs)) same
