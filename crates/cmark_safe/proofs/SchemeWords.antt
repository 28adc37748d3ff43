-- The words of a caller's list, taken from its start one by one.
use Rattle.std.proofs.Common.{◌≡◌, ℕ, suc, ◌<◌, ◌≤◌, ◌||◌, false, List, [], ◌∷◌, ◌++◌, length, get_or, filter, All, refl, sym, ap, subst, ◌∙◌, inl, inr, arith, append-nil}
use Rattle.std.specs.Char.{is_ascii_whitespace}
use Rattle.std.specs.List.{slice_split, AllPass}
use Rattle.std.specs.Str.{NoCharPasses, str_eq_ignore_ascii_case}
use Rattle.std.specs.Str.Iter.{IsAsciiSeparator}
use Rattle.std.proofs.lemmas.Bool.{cases_lt, lt-ltb, cond-true}
use Rattle.std.proofs.lemmas.Bool.Decides.{nat_tests}
use Rattle.std.proofs.lemmas.List.{nil_from_length}
use Rattle.std.proofs.lemmas.List.Elements.{All-from_get_or}
use Rattle.std.proofs.lemmas.List.Splits.{slice_split-cons_yes, slice_split_none, slice_split_at}
use Rattle.std.proofs.lemmas.Str.{NoCharPasses-byte}
use Rattle.cmark_grammar.specs.Labels.{is_nonempty, words}
use Rattle.cmark_safe.specs.Schemes.{is_one_of}

not_white : (b : ℕ) → 128 ≤ b → is_ascii_whitespace b ≡ false
not_white b high = grind (arith, nat_tests)

-- no byte of a text without white space is white space
no_white : (x : List ℕ) → NoCharPasses is_ascii_whitespace x → All (λ b. is_ascii_whitespace b ≡ false) x
no_white x none =
    All-from_get_or (λ b. is_ascii_whitespace b ≡ false) x 0 (λ k below.
    elim (cases_lt (get_or x k 0) 128) [
      | inl small ↦ NoCharPasses-byte is_ascii_whitespace x k none below small
      | inr high ↦ not_white (get_or x k 0) high
    ])

-- white space at the start
words_past_gap : (gap bs : List ℕ) → AllPass is_ascii_whitespace gap → words (gap ++ bs) ≡ words bs
words_past_gap [] bs white = refl
words_past_gap (b ∷ gap) bs white =
    ap (filter is_nonempty) (slice_split-cons_yes is_ascii_whitespace b (gap ++ bs) (white 0 b (omega arith)))
    ∙ words_past_gap gap bs (λ k d below. white (suc k) d (omega arith))

kept_word : (x : List ℕ) (parts : List (List ℕ)) → 0 < length x → filter is_nonempty (x ∷ parts) ≡ x ∷ filter is_nonempty parts
kept_word x parts some = cond-true (is_nonempty x) (x ∷ filter is_nonempty parts) (filter is_nonempty parts) (lt-ltb 0 (length x) some)

-- a word, and the words after it
words_at_word : (x sep rest : List ℕ) → 0 < length x → All (λ b. is_ascii_whitespace b ≡ false) x → IsAsciiSeparator sep rest → words (x ++ (sep ++ rest)) ≡ x ∷ words rest
words_at_word x [] rest some none after =
    let nothing : rest ≡ [] = nil_from_length rest (after.2 refl) in
    subst (λ l. words (x ++ l) ≡ x ∷ words l) (sym nothing)
    (subst (λ l. words l ≡ x ∷ words []) (sym (append-nil x))
    (ap (filter is_nonempty) (slice_split_none is_ascii_whitespace x none) ∙ kept_word x [] some))
words_at_word x (y ∷ []) rest some none after =
    ap (filter is_nonempty) (slice_split_at is_ascii_whitespace x y rest none (after.0 0 y (omega arith)))
    ∙ kept_word x (slice_split is_ascii_whitespace rest) some
words_at_word x (y ∷ (z ∷ zs)) rest some none after = absurd (omega (arith, after.1))

-- the name is in a list if it is the first word, or is in the rest
pub word_off : (bs gap x sep rest name : List ℕ) → bs ≡ gap ++ (x ++ (sep ++ rest)) → AllPass is_ascii_whitespace gap → 0 < length x → NoCharPasses is_ascii_whitespace x → IsAsciiSeparator sep rest
    → is_one_of (words bs) name ≡ (str_eq_ignore_ascii_case name x || is_one_of (words rest) name)
word_off bs gap x sep rest name cut white some none after =
    ap (λ ws. is_one_of ws name) (ap words cut ∙ words_past_gap gap (x ++ (sep ++ rest)) white ∙ words_at_word x sep rest some (no_white x none) after)

-- white space has no word
pub none_left : (bs name : List ℕ) → AllPass is_ascii_whitespace bs → is_one_of (words bs) name ≡ false
none_left bs name white = subst (λ l. is_one_of (words l) name ≡ false) (append-nil bs) (ap (λ ws. is_one_of ws name) (words_past_gap bs [] white))
