-- A computed check that texts ascend.
use Rattle.std.proofs.Common.{◌≡◌, ℕ, Bool, ◌&&◌, true, false, List, [], ◌∷◌, refl}
use Rattle.std.specs.Cmp.Lexicographic.{slice_cmp}
use Rattle.std.specs.List.{AllByRecursion}
use Rattle.std.specs.List.Sorted.{IsStrictlySortedBy}
use Rattle.std.specs.Ordering.{is_lt, nat_cmp}
use Rattle.std.specs.declared.cmp.Ordering.{Ordering}
use Rattle.std.specs.declared.cmp.Ordering.TheVariants.{Less}
use Rattle.std.proofs.lemmas.Cmp.{nat_list_cmp_total}

-- each text is above the one before it
abbrev pub ascends : List (List ℕ) → Bool
ascends [] = true
ascends (x ∷ []) = true
ascends (x ∷ (y ∷ ys)) = is_lt (slice_cmp nat_cmp x y) && ascends (y ∷ ys)

less_from : (o : Ordering) (b : Bool) → (is_lt o && b) ≡ true → o ≡ Less
less_from Less b h = refl
less_from _ b h = cc

later_from : (a b : Bool) → (a && b) ≡ true → b ≡ true
later_from true b h = h
later_from false b h = cc

below_all : (x y : List ℕ) (ys : List (List ℕ)) → slice_cmp nat_cmp x y ≡ Less → AllByRecursion (λ z. slice_cmp nat_cmp y z ≡ Less) ys → AllByRecursion (λ z. slice_cmp nat_cmp x z ≡ Less) ys
below_all x y [] less all = tt
below_all x y (z ∷ zs) less all = (nat_list_cmp_total.trans x y z less all.0, below_all x y zs less all.1)

pub sorted_from_ascends : (xs : List (List ℕ)) → ascends xs ≡ true → IsStrictlySortedBy (slice_cmp nat_cmp) xs
unfolding IsStrictlySortedBy
sorted_from_ascends [] h = tt
sorted_from_ascends (x ∷ []) h = (tt, tt)
sorted_from_ascends (x ∷ (y ∷ ys)) h =
    let less = less_from (slice_cmp nat_cmp x y) (ascends (y ∷ ys)) h in
    let later = sorted_from_ascends (y ∷ ys) (later_from (is_lt (slice_cmp nat_cmp x y)) (ascends (y ∷ ys)) h) in
    ((less, below_all x y ys less later.0), later)
