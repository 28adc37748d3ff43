-- The first definition of a folded label stays, and no other.
use Rattle.std.proofs.Common.{◌≡◌, ℕ, true, false, List, [], ◌∷◌, refl, None, arith, rules}
use Rattle.std.specs.Prelude.{bytes_eq}
use Rattle.std.proofs.lemmas.Slice.Eq.{bytes_eq-Decides}
use Rattle.cmark_grammar.specs.BlockDocument.{Reference}
use Rattle.cmark_grammar.specs.References.{first_with}
use Rattle.cmark_block_model.specs.ReferenceTable.{without_label, table, EachOnce}

same_bytes : (x y : List ℕ) → bytes_eq x y ≡ true → x ≡ y
same_bytes x y = (bytes_eq-Decides x y).0

module _ (fold : List ℕ → List ℕ) where
  others_stay : (x y : List ℕ) → bytes_eq x y ≡ false → (rs : List Reference) → first_with fold y (without_label fold x rs) ≡ first_with fold y rs
  others_stay x y differ [] = refl
  others_stay x y differ (r ∷ rs) = search (rules, same_bytes, others_stay x y differ rs)

  pub first-stays : (folded : List ℕ) (rs : List Reference) → first_with fold folded (table fold rs) ≡ first_with fold folded rs
  first-stays folded [] = refl
  first-stays folded (r ∷ rs) = grind (arith, others_stay, first-stays folded rs)

  none_left : (x : List ℕ) (rs : List Reference) → first_with fold x (without_label fold x rs) ≡ None
  none_left x [] = refl
  none_left x (r ∷ rs) = grind (arith, none_left x rs)

  still_none : (x y : List ℕ) (rs : List Reference) → first_with fold y rs ≡ None → first_with fold y (without_label fold x rs) ≡ None
  still_none x y [] e = refl
  still_none x y (r ∷ rs) e = grind (arith, still_none x y rs)

  still_once : (x : List ℕ) (rs : List Reference) → EachOnce fold rs → EachOnce fold (without_label fold x rs)
  still_once x [] o = tt
  still_once x (r ∷ rs) o = grind (arith, still_none, still_once x rs o.1)

  pub table-once : (rs : List Reference) → EachOnce fold (table fold rs)
  table-once [] = tt
  table-once (r ∷ rs) = (none_left (fold r.label) (table fold rs), still_once (fold r.label) (table fold rs) (table-once rs))
