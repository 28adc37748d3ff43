-- The lines of a title.
use Rattle.std.proofs.Common.{◌≡◌, ℕ, zero, suc, ◌<◌, ◌≤◌, Bool, true, false, ◌==◌, ◌&&◌, ◌||◌, not, cond, if◌then◌else◌, List, [], ◌∷◌, ◌++◌, length, take, drop, get_or, Option, None, Some, refl, sym, ap, subst, ◌∙◌, arith, ⊎_elim, eqb-true, append_assoc}
use Rattle.std.proofs.lemmas.Bool.{or_parts, or_cases, false_from_ne_true}
use Rattle.std.proofs.lemmas.List.Sums.{take_while-cons}
use Rattle.std.specs.Option.{is_none}
use Rattle.std.specs.Prelude.{take_while}
use Rattle.memchr.specs.Find.{IsFirstByte, is_byte2}
use Rattle.cmark_grammar.specs.Columns.{is_blank_byte}
use Rattle.cmark_grammar.specs.Lines.{begins_with_line_feed}
use Rattle.cmark_grammar.specs.LinkDefinitions.{after_leading_blanks, after_separator}
use Rattle.cmark_grammar.specs.Tokens.{title_lines}

abbrev title_step : (feed return another front blank : Bool) → ℕ → List ℕ → List ℕ
title_step feed return another front blank b bs =
    if feed || (return && not another) then 10 ∷ title_lines true bs
    else if front && blank then title_lines true bs
    else if return then title_lines false bs
    else b ∷ title_lines false bs

-- at the beginning of a line
blank_falls : (b : ℕ) (bs : List ℕ) → is_blank_byte b ≡ true → title_lines true (b ∷ bs) ≡ title_lines true bs
blank_falls b bs e = ⊎_elim (λ h. at b (eqb-true b 32 h)) (λ h. tab b (eqb-true b 9 h)) (or_cases (b == 32) (b == 9) e)
  where
    at : (c : ℕ) → c ≡ 32 → title_lines true (c ∷ bs) ≡ title_lines true bs
    at c is = subst (λ (d : ℕ). title_lines true (d ∷ bs) ≡ title_lines true bs) (sym is) refl

    tab : (c : ℕ) → c ≡ 9 → title_lines true (c ∷ bs) ≡ title_lines true bs
    tab c is = subst (λ (d : ℕ). title_lines true (d ∷ bs) ≡ title_lines true bs) (sym is) refl

blanks_fall : (bs : List ℕ) → title_lines true bs ≡ title_lines false (after_leading_blanks bs)
blanks_fall [] = refl
blanks_fall (b ∷ bs) = by_case (is_blank_byte b) refl (blanks_fall bs)
  where
    by_case : (t : Bool) → is_blank_byte b ≡ t → title_lines true bs ≡ title_lines false (after_leading_blanks bs) → title_lines true (b ∷ bs) ≡ title_lines false (after_leading_blanks (b ∷ bs))
    by_case true e ih =
        blank_falls b bs e
        ∙ ih
        ∙ sym (ap (λ l. title_lines false (drop (length l) (b ∷ bs))) (take_while-cons is_blank_byte b bs ∙ ap (λ t. cond t (b ∷ take_while is_blank_byte bs) []) e))
    by_case false e ih =
        ap (λ t. title_step (b == 10) (b == 13) (begins_with_line_feed bs) true t b bs) e
        ∙ sym (ap (λ l. title_lines false (drop (length l) (b ∷ bs))) (take_while-cons is_blank_byte b bs ∙ ap (λ t. cond t (b ∷ take_while is_blank_byte bs) []) e))

-- a byte of no line ending
plain_byte : (b : ℕ) (bs : List ℕ) → is_byte2 10 13 b ≡ false → title_lines false (b ∷ bs) ≡ b ∷ title_lines false bs
plain_byte b bs e =
    let h = or_parts (b == 10) (b == 13) e in
    ap (λ t. title_step t (b == 13) (begins_with_line_feed bs) false (is_blank_byte b) b bs) h.0 ∙ ap (λ t. title_step false t (begins_with_line_feed bs) false (is_blank_byte b) b bs) h.1

plain_bytes : (n : ℕ) (bs : List ℕ) → n ≤ length bs → ((k : ℕ) → k < n → is_byte2 10 13 (get_or bs k 0) ≡ false) → title_lines false bs ≡ take n bs ++ title_lines false (drop n bs)
plain_bytes zero bs le none = refl
plain_bytes (suc n) [] le none = absurd (omega arith)
plain_bytes (suc n) (b ∷ bs) le none = plain_byte b bs (none 0 (omega arith)) ∙ ap (λ l. b ∷ l) (plain_bytes n bs (omega arith) (λ k lt. none (suc k) (omega arith)))

-- a line ending
line_falls : (bs : List ℕ) → 0 < length bs → is_byte2 10 13 (get_or bs 0 0) ≡ true → title_lines false bs ≡ 10 ∷ title_lines false (after_separator bs)
line_falls [] lt e = absurd (omega arith)
line_falls (b ∷ bs) lt e = ⊎_elim feed return (or_cases (b == 10) (b == 13) e)
  where
    Falls : List ℕ → Type 0
    Falls cs = title_lines false cs ≡ 10 ∷ title_lines false (after_separator cs)

    feed : (b == 10) ≡ true → Falls (b ∷ bs)
    feed t = subst (λ (c : ℕ). Falls (c ∷ bs)) (sym (eqb-true b 10 t)) (ap (λ l. 10 ∷ l) (blanks_fall bs))

    after_return : (cs : List ℕ) → Falls (13 ∷ cs)
    after_return [] = refl
    after_return (c ∷ cs) = go (c == 10) refl
      where
        go : (t : Bool) → (c == 10) ≡ t → Falls (13 ∷ (c ∷ cs))
        go true is = subst (λ (d : ℕ). Falls (13 ∷ (d ∷ cs))) (sym (eqb-true c 10 is)) (ap (λ l. 10 ∷ l) (blanks_fall cs))
        go false is =
            ap (λ t. title_step false true t false false 13 (c ∷ cs)) is
            ∙ ap (λ l. 10 ∷ l) (blanks_fall (c ∷ cs) ∙ sym (ap (λ t. title_lines false (after_leading_blanks (if t then cs else c ∷ cs))) is))

    return : (b == 13) ≡ true → Falls (b ∷ bs)
    return t = subst (λ (c : ℕ). Falls (c ∷ bs)) (sym (eqb-true b 13 t)) (after_return bs)

first_there : (n : ℕ) (bs : List ℕ) → n < length bs → (0 < length (drop n bs)) × (get_or (drop n bs) 0 0 ≡ get_or bs n 0)
first_there n [] lt = absurd (omega arith)
first_there zero (b ∷ bs) lt = (omega arith, refl)
first_there (suc n) (b ∷ bs) lt = first_there n bs (omega arith)

line_end_there : (bytes rest following : List ℕ) (at : ℕ) → bytes ≡ rest → IsFirstByte (is_byte2 10 13) bytes (Some at) → following ≡ drop at rest → (0 < length following) × (is_byte2 10 13 (get_or following 0 0) ≡ true)
line_end_there bytes rest following at same first is =
    let found : IsFirstByte (is_byte2 10 13) rest (Some at) = subst (λ (l : List ℕ). IsFirstByte (is_byte2 10 13) l (Some at)) same first in
    let there = first_there at rest found.0.high in
    (subst (λ (l : List ℕ). 0 < length l) (sym is) there.0, ap (λ l. is_byte2 10 13 (get_or l 0 0)) is ∙ ap (is_byte2 10 13) there.1 ∙ found.1)

-- one line more
pub line_pushed : (at : ℕ) (out one two bytes rest front following next all : List ℕ) → bytes ≡ rest → IsFirstByte (is_byte2 10 13) bytes (Some at) → one ≡ out ++ front → front ≡ take at rest → following ≡ drop at rest
    → two ≡ one ++ (10 ∷ []) → next ≡ after_separator following → out ++ title_lines false rest ≡ all → two ++ title_lines false next ≡ all
line_pushed at out one two bytes rest front following next all same first first_push front_is following_is second_push next_is e =
    let found : IsFirstByte (is_byte2 10 13) rest (Some at) = subst (λ (l : List ℕ). IsFirstByte (is_byte2 10 13) l (Some at)) same first in
    let there = line_end_there bytes rest following at same first following_is in
    ap (λ l. l ++ title_lines false next) (second_push ∙ ap (λ l. l ++ (10 ∷ [])) (first_push ∙ ap (λ l. out ++ l) front_is))
    ∙ append_assoc (out ++ take at rest) (10 ∷ []) (title_lines false next)
    ∙ ap (λ l. (out ++ take at rest) ++ l) (ap (λ l. 10 ∷ title_lines false l) next_is ∙ sym (line_falls following there.0 there.1) ∙ ap (title_lines false) following_is)
    ∙ append_assoc out (take at rest) (title_lines false (drop at rest))
    ∙ ap (λ l. out ++ l) (sym (plain_bytes at rest (let h = found.0.high in omega arith) (λ k lt. false_from_ne_true _ (found.0.before k (omega arith) lt))))
    ∙ e

-- a title of one line is unchanged
pub one_line : (bytes rest : List ℕ) → bytes ≡ rest → IsFirstByte (is_byte2 10 13) bytes None → title_lines false rest ≡ rest
one_line bytes rest same none = plain rest (λ k lt. false_from_ne_true _ (found k (omega arith) lt))
  where
    found : IsFirstByte (is_byte2 10 13) rest None
    found = subst (λ (l : List ℕ). IsFirstByte (is_byte2 10 13) l None) same none

    plain : (bs : List ℕ) → ((k : ℕ) → k < length bs → is_byte2 10 13 (get_or bs k 0) ≡ false) → title_lines false bs ≡ bs
    plain [] h = refl
    plain (b ∷ bs) h = plain_byte b bs (h 0 (omega arith)) ∙ ap (λ l. b ∷ l) (plain bs (λ k lt. h (suc k) (omega arith)))

pub one_line_if : (bytes rest : List ℕ) (first : Option ℕ) → bytes ≡ rest → IsFirstByte (is_byte2 10 13) bytes first → is_none first ≡ true → title_lines false rest ≡ rest
one_line_if bytes rest None same none e = one_line bytes rest same none
one_line_if bytes rest (Some at) same first e = cc

pub last_pushed : (out one bytes rest all : List ℕ) → bytes ≡ rest → IsFirstByte (is_byte2 10 13) bytes None → one ≡ out ++ rest → out ++ title_lines false rest ≡ all → one ≡ all
last_pushed out one bytes rest all same none push e = push ∙ ap (λ l. out ++ l) (sym (one_line bytes rest same none)) ∙ e
