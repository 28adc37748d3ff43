-- The number of times that a place occurs in a forest, and the node there.
use Rattle.std.proofs.Common.{◌≡◌, ◌≢◌, ℕ, ◌+◌, ◌<◌, ◌≤◌, cond, nat_eq, List, [], ◌∷◌, refl, ap, arith}
use Rattle.std.proofs.lemmas.Bool.{eq-eqb, eqb-true}
use Rattle.cmark_tree.specs.Forest.{Forest, Nil, Node, join}
use Rattle.cmark_tree.specs.Arena.{Placed, first, hit, times}
use Rattle.cmark_tree.specs.Zip.{Level, plug}

pub hit-le : (a b : ℕ) → hit a b ≤ 1
unfolding hit
hit-le a b = grind (arith, nat_eq, cond)

pub hit-same : (a b : ℕ) → a ≡ b → hit a b ≡ 1
unfolding hit
hit-same a b e = ap (λ t. cond t 1 0) (eq-eqb a b e)

pub hit-in : (a b : ℕ) → 0 < hit a b → a ≡ b
unfolding hit
hit-in a b = grind (arith, nat_eq, cond, eqb-true)

pub hit-other : (a b : ℕ) → a ≢ b → hit a b ≡ 0
hit-other a b ne = grind (arith, hit-in)

module _ {T : Type 0} where
  pub times-join : (i : ℕ) (f g : Forest (Placed T)) → times i (join f g) ≡ times i f + times i g
  times-join i Nil g = omega arith
  times-join i (Node p inside after) g = omega (arith, times-join i after g)

  pub join-nil : (f : Forest (Placed T)) → join f Nil ≡ f
  join-nil Nil = refl
  join-nil (Node p inside after) = ap (Node p inside) (join-nil after)

  pub join_assoc : (f g h : Forest (Placed T)) → join (join f g) h ≡ join f (join g h)
  join_assoc Nil g h = refl
  join_assoc (Node p inside after) g h = ap (Node p inside) (join_assoc after g h)

  -- the number of times that a place occurs in the path and beside it
  abbrev pub outside : ℕ → List (Level T) → ℕ
  outside i [] = 0
  outside i (v ∷ up) = (times i v.left + (hit v.place.ix i + times i v.right)) + outside i up

  pub times-plug : (i : ℕ) (up : List (Level T)) (f : Forest (Placed T)) → times i (plug up f) ≡ times i f + outside i up
  times-plug i [] f = omega arith
  times-plug i (v ∷ up) f =
      omega (arith, times-plug i up (join v.left (Node v.place f v.right)), times-join i v.left (Node v.place f v.right))

  pub first-join : (l f g : Forest (Placed T)) → first f ≡ first g → first (join l f) ≡ first (join l g)
  first-join Nil f g e = e
  first-join (Node p inside after) f g e = refl

  pub first-plug : (up : List (Level T)) (f g : Forest (Placed T)) → first f ≡ first g → first (plug up f) ≡ first (plug up g)
  first-plug [] f g e = e
  first-plug (v ∷ up) f g e =
      first-plug up (join v.left (Node v.place f v.right)) (join v.left (Node v.place g v.right)) (first-join v.left (Node v.place f v.right) (Node v.place g v.right) refl)
