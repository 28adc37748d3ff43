-- The folded form of a label's normal form is the folded label.
use Rattle.std.proofs.Common.{◌≡◌, ℕ, true, false, List, [], ◌∷◌, All, cond, filter, refl, ap, ◌∙◌, arith, rules}
use Rattle.std.specs.Char.{is_ascii_whitespace}
use Rattle.std.specs.List.{slice_split, join_with_byte, onto_first}
use Rattle.std.proofs.lemmas.List.Elements.{All-cons}
use Rattle.std.proofs.lemmas.List.Splits.{slice_split_none, slice_split_at}
use Rattle.cmark_grammar.specs.Labels.{is_nonempty, words, normal_form, case_folded, fold}

-- a word of a label has no white space
abbrev pub IsWord : List ℕ → Type 0
IsWord bs = All (λ b. is_ascii_whitespace b ≡ false) bs

abbrev pub AreParts : List (List ℕ) → Type 0
AreParts [] = Unit {0}
AreParts (p ∷ ps) = IsWord p × AreParts ps

abbrev pub AreWords : List (List ℕ) → Type 0
AreWords [] = Unit {0}
AreWords (p ∷ ps) = IsWord p × (is_nonempty p ≡ true) × AreWords ps

no-word : IsWord []
no-word = λ k d lt. absurd (omega (arith, lt))

parts-onto : (b : ℕ) (ps : List (List ℕ)) → is_ascii_whitespace b ≡ false → AreParts ps → AreParts (onto_first b ps)
parts-onto b [] e h = (All-cons (λ c. is_ascii_whitespace c ≡ false) b [] e no-word, tt)
parts-onto b (p ∷ ps) e h = (All-cons (λ c. is_ascii_whitespace c ≡ false) b p e h.0, h.1)

split-parts : (bs : List ℕ) → AreParts (slice_split is_ascii_whitespace bs)
split-parts [] = (no-word, tt)
split-parts (b ∷ bs) = grind (arith, cond, no-word, parts-onto, split-parts bs)

filter-words : (ps : List (List ℕ)) → AreParts ps → AreWords (filter is_nonempty ps)
filter-words [] h = tt
filter-words (p ∷ ps) h = grind (arith, cond, filter-words ps h.1)

kept : (p : List ℕ) (ps : List (List ℕ)) → is_nonempty p ≡ true → filter is_nonempty (p ∷ ps) ≡ p ∷ filter is_nonempty ps
kept p ps e = ap (λ z. cond z (p ∷ filter is_nonempty ps) (filter is_nonempty ps)) e

words-again : (ps : List (List ℕ)) → AreWords ps → words (join_with_byte 32 ps) ≡ ps
words-again [] h = refl
words-again (p ∷ []) h = ap (filter is_nonempty) (slice_split_none is_ascii_whitespace p h.0) ∙ kept p [] h.1
words-again (p ∷ q ∷ ps) h = search (rules, slice_split_at, kept, words-again (q ∷ ps) h.2)

-- the normal form of a label folds like the label
pub fold-again : (label : List ℕ) → fold (normal_form label) ≡ fold label
fold-again label =
    ap (λ ws. case_folded (join_with_byte 32 ws)) (words-again (words label) (filter-words (slice_split is_ascii_whitespace label) (split-parts label)))
