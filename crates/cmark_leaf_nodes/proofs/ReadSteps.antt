-- Lines that are read in a text, one by one.
use Rattle.std.proofs.Common.{◌≡◌, ℕ, zero, suc, ◌<◌, List, [], ◌∷◌, length, drop, get_or, sym, ap, subst, arith}
use Rattle.cmark_line_rules.specs.declared.line_rest.LineRest.{LineRest}
use Rattle.cmark_leaf_nodes.specs.Contents.{AreRead}
use Rattle.cmark_leaf_nodes.specs.TextColumns.{IsRead}

pub read-at : (text : List ℕ) (lines : List LineRest) (i : ℕ) (rest : LineRest) → AreRead text lines → i < length lines → rest ≡ get_or lines i rest → IsRead text rest
read-at text [] i rest h l e = absurd (omega (arith, l))
read-at text (r ∷ lines) zero rest h l e = subst (IsRead text) (sym e) h.0
read-at text (r ∷ lines) (suc i) rest h l e = read-at text lines i rest h.1 (omega (arith, l)) e

pub drop-get : {A : Type 0} (xs : List A) (i : ℕ) (x : A) → i < length xs → x ≡ get_or xs i x → drop i xs ≡ x ∷ drop (suc i) xs
drop-get [] i x l e = absurd (omega (arith, l))
drop-get (y ∷ xs) zero x l e = ap (λ z. z ∷ xs) (sym e)
drop-get (y ∷ xs) (suc i) x l e = drop-get xs i x (omega (arith, l)) e
