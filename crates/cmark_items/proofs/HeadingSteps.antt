-- The words between braces, one after the other.
use Rattle.std.proofs.Common.{◌≡◌, ℕ, suc, ◌<◌, Bool, true, false, ◌==◌, not, List, [], ◌∷◌, length, take, drop, Option, Some, None, refl, sym, ap, ◌∙◌, arith, cond, true≢false}
use Rattle.std.specs.Char.{is_ascii_whitespace}
use Rattle.std.specs.List.{take_while}
use Rattle.std.specs.Prelude.{get_or}
use Rattle.std.proofs.lemmas.Bool.Decides.{nat_tests}
use Rattle.std.proofs.lemmas.List.Sums.{take_while-cons}
use Rattle.cmark_grammar.specs.Attributes.{is_no_equals, put_byte, words, value_after}
use Rattle.cmark_items.specs.Headings.{is_in_word, words_after}

-- how much is left
abbrev pub left_size : Option (List ℕ) → ℕ
left_size None = 0
left_size (Some bs) = suc (length bs)

-- the first word, and the words after the white space that ends it
pub words-cut : (bs : List ℕ) → words bs ≡ take (length (take_while is_in_word bs)) bs ∷ words_after (value_after (drop (length (take_while is_in_word bs)) bs))
words-cut [] = refl
words-cut (b ∷ bs) = go (is_ascii_whitespace b) refl (words-cut bs)
  where
    n : ℕ
    n = length (take_while is_in_word bs)

    at : (z : Bool) → is_ascii_whitespace b ≡ z → length (take_while is_in_word (b ∷ bs)) ≡ length (cond (not z) (b ∷ take_while is_in_word bs) [])
    at z e = ap length (take_while-cons is_in_word b bs) ∙ ap (λ y. length (cond (not y) (b ∷ take_while is_in_word bs) [])) e

    go : (z : Bool) → is_ascii_whitespace b ≡ z → words bs ≡ take n bs ∷ words_after (value_after (drop n bs)) →
        put_byte (is_ascii_whitespace b) b (words bs) ≡ take (length (take_while is_in_word (b ∷ bs))) (b ∷ bs) ∷ words_after (value_after (drop (length (take_while is_in_word (b ∷ bs))) (b ∷ bs)))
    go true e ih = ap (λ y. put_byte y b (words bs)) e ∙ sym (ap (λ k. take k (b ∷ bs) ∷ words_after (value_after (drop k (b ∷ bs)))) (at true e))
    go false e ih =
        ap (λ y. put_byte y b (words bs)) e ∙ ap (put_byte false b) ih
        ∙ sym (ap (λ k. take k (b ∷ bs) ∷ words_after (value_after (drop k (b ∷ bs)))) (at false e))

-- after the bytes that pass comes a byte that does not
pub following-fails : (p : ℕ → Bool) (bs : List ℕ) → length (take_while p bs) < length bs → p (get_or bs (length (take_while p bs)) 0) ≡ false
following-fails p [] l = absurd (omega (arith, l))
following-fails p (b ∷ bs) l = go (p b) refl (following-fails p bs)
  where
    at : (z : Bool) → p b ≡ z → length (take_while p (b ∷ bs)) ≡ length (cond z (b ∷ take_while p bs) [])
    at z e = ap length (take_while-cons p b bs) ∙ ap (λ y. length (cond y (b ∷ take_while p bs) [])) e

    go : (z : Bool) → p b ≡ z → (length (take_while p bs) < length bs → p (get_or bs (length (take_while p bs)) 0) ≡ false) → p (get_or (b ∷ bs) (length (take_while p (b ∷ bs))) 0) ≡ false
    go true e ih = ap (λ k. p (get_or (b ∷ bs) k 0)) (at true e) ∙ ih (let q = at true e in omega (arith, l, q))
    go false e ih = ap (λ k. p (get_or (b ∷ bs) k 0)) (at false e) ∙ e

is_byte : (b n : ℕ) → (b == n) ≡ true → n < 128 → b < 128
is_byte b n e l = grind (arith, e, l)

not-false : (z : Bool) → not z ≡ false → z ≡ true
not-false true e = refl
not-false false e = absurd (true≢false e)

-- a byte that ends a word is ASCII, and so is one that ends a name
pub white-ascii : (b : ℕ) → is_in_word b ≡ false → b < 128
white-ascii b e = let white : is_ascii_whitespace b ≡ true = not-false (is_ascii_whitespace b) e in grind (arith, nat_tests, white)

pub equals-ascii : (b : ℕ) → is_no_equals b ≡ false → b < 128
equals-ascii b e = is_byte b 61 (not-false (b == 61) e) (omega arith)
