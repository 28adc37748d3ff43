-- White space and punctuation in ASCII and past it.
use Rattle.std.proofs.Common.{◌≡◌, ℕ, ◌<◌, ◌≤◌, Bool, true, false, ◌==◌, ◌||◌, refl, arith}
use Rattle.std.specs.Bool.{beq}
use Rattle.std.proofs.lemmas.Bool.{eqb-true}
use Rattle.std.specs.Char.{is_ascii_punctuation}
use Rattle.ucd_table.proofs.Computing.{tables}
use Rattle.ucd_table.proofs.Facts.{Stepped-below, same_from_beq}
use Rattle.ucd_category.specs.GeneralCategory.{general_category, general_category_eq}
use Rattle.ucd_category.specs.GeneralCategoryGroup.{in_group}
use Rattle.ucd_category.specs.declared.GeneralCategory.{GeneralCategory}
use Rattle.ucd_category.specs.declared.GeneralCategory.TheVariants.{SpaceSeparator}
use Rattle.ucd_category.specs.declared.GeneralCategoryGroup.TheVariants.{Punctuation, Symbol}
use Rattle.ucd_category.proofs.GeneralCategoryLemmas.{general_category_stepped}
use Rattle.cmark_emphasis.specs.Ascii.{is_ascii_white_space}
use Rattle.cmark_grammar.specs.Flanking.{is_unicode_white_space, is_unicode_punctuation}

abbrev is_space_of : ℕ → GeneralCategory → Bool
is_space_of c g = (c == 9) || ((c == 10) || ((c == 12) || ((c == 13) || general_category_eq g SpaceSeparator)))

abbrev is_punctuation_of : GeneralCategory → Bool
is_punctuation_of g = in_group Punctuation g || in_group Symbol g

pub ascii_white_space : (c : ℕ) → c < 128 → is_ascii_white_space c ≡ is_unicode_white_space c
unfolding tables general_category_stepped is_unicode_white_space
ascii_white_space c lt =
    same_from_beq _ _ (Stepped-below general_category general_category_stepped (λ x g. beq (is_ascii_white_space x) (is_space_of x g)) 128 refl c lt)

pub ascii_punctuation : (c : ℕ) → c < 128 → is_ascii_punctuation c ≡ is_unicode_punctuation c
unfolding tables general_category_stepped is_unicode_punctuation
ascii_punctuation c lt =
    same_from_beq _ _ (Stepped-below general_category general_category_stepped (λ x g. beq (is_ascii_punctuation x) (is_punctuation_of g)) 128 refl c lt)

pub white_space_past_ascii : (c : ℕ) → 128 ≤ c → general_category_eq (general_category c) SpaceSeparator ≡ is_unicode_white_space c
unfolding is_unicode_white_space
white_space_past_ascii c le = rw (off 9 (omega arith)) (rw (off 10 (omega arith)) (rw (off 12 (omega arith)) (rw (off 13 (omega arith)) refl)))
  where
    off : (k : ℕ) → k < 128 → (c == k) ≡ false
    off k lt = go (c == k) refl
      where
        go : (b : Bool) → (c == k) ≡ b → b ≡ false
        go true e = absurd (let q = eqb-true c k e in omega arith)
        go false e = refl
