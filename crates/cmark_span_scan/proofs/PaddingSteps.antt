-- Spaces at both ends of a text.
use Rattle.std.proofs.Common.{◌≡◌, ℕ, ◌-◌, ◌<◌, true, ◌&&◌, List, [], ◌∷◌, length, get_or, ap, sym, ◌∙◌, arith, eqb-true}
use Rattle.std.specs.Str.{IsCharBoundary, IsUtf8}
use Rattle.std.specs.Prelude.{not, nat_lt, count_by}
use Rattle.std.proofs.lemmas.Bool.{and_parts}
use Rattle.std.proofs.lemmas.Str.{IsCharBoundary-after_ascii}
use Rattle.cmark_grammar.specs.CodeSpans.{is_space, is_padded}

padded_first : (bs : List ℕ) → is_padded bs ≡ true → (0 < length bs) × (get_or bs 0 0 ≡ 32)
padded_first [] e = cc
padded_first (b ∷ bs) e =
    (omega arith, eqb-true b 32 (and_parts (is_space b) (is_space (get_or (b ∷ bs) (length (b ∷ bs) - 1) 0) && nat_lt 0 (count_by (λ b. not (is_space b)) (b ∷ bs))) e).0)

pub after_first_of : (bytes text : List ℕ) → bytes ≡ text → IsUtf8 text → is_padded bytes ≡ true → IsCharBoundary text 1
after_first_of bytes text same utf8 e =
    let h = padded_first text (ap is_padded (sym same) ∙ e) in
    let first = h.1 in
    IsCharBoundary-after_ascii text 0 utf8 h.0 (omega (arith, first))
