-- A walk by focus, first child, next sibling and parent gives the preorder reading.
use Rattle.std.proofs.Common.{◌≡◌, List, [], ◌∷◌, refl, ap, append_assoc, append-nil}
use Rattle.cmark_tree.specs.Forest.{Forest, Nil, Node, join, one}
use Rattle.cmark_tree.specs.Arena.{Placed}
use Rattle.cmark_tree.specs.Zip.{Level, Zip, whole, pushed, at_first}
use Rattle.cmark_tree.specs.Reading.{Enter, Leave, reading, reading_above, reading_from}

module _ {T : Type 0} where
  -- into the first child: the node is entered
  pub enters : (left inside after : Forest (Placed T)) (p : Placed T) (up : List (Level T)) → reading_from (record { left = left; right = Node p inside after; up = up }) ≡ Enter p ∷ reading_from (pushed (record { left = left; right = Node p inside after; up = up }))
  enters left inside after p up = ap (λ l. Enter p ∷ l) (append_assoc (reading inside) (Leave p ∷ reading after) (reading_above up))

  -- after the last child, to the parent and past it: the parent is left
  pub leaves : (left : Forest (Placed T)) (v : Level T) (up : List (Level T)) → reading_from (record { left = left; right = Nil; up = v ∷ up }) ≡ Leave v.place ∷ reading_from (record { left = join v.left (one v.place left); right = v.right; up = up })
  leaves left v up = refl

  -- past a node with no children: it is entered and left
  pub passes : (left after : Forest (Placed T)) (p : Placed T) (up : List (Level T)) → reading_from (record { left = left; right = Node p Nil after; up = up }) ≡ Enter p ∷ (Leave p ∷ reading_from (record { left = join left (one p Nil); right = after; up = up }))
  passes left after p up = refl

  -- after the last tree nothing is left
  pub ends : (left : Forest (Placed T)) → reading_from (record { left = left; right = Nil; up = [] }) ≡ []
  ends left = refl

  -- at the first tree everything is left
  pub begins : (z : Zip T) → reading_from (at_first z) ≡ reading (whole z)
  begins z = append-nil (reading (whole z))
