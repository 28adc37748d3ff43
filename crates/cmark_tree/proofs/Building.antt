-- The steps of a builder.
use Rattle.std.proofs.Common.{◌≡◌, ℕ, List, ◌∷◌, refl, ap, ◌∙◌, arith}
use Rattle.cmark_tree.specs.declared.tree.Tree.{Tree}
use Rattle.cmark_tree.specs.Forest.{Forest, Nil, Node, join, one}
use Rattle.cmark_tree.specs.Arena.{Placed, items_of}
use Rattle.cmark_tree.specs.Zip.{Zip, CanAppend, HasFocus, appended, pushed, popped}
use Rattle.cmark_tree.specs.Tree.{Holds, IsUnchanged}
use Rattle.cmark_tree.specs.Building.{Opened, opened, Is, closed}

module _ {T : Type 0} where
  pub items_of-join : (f g : Forest (Placed T)) → items_of (join f g) ≡ join (items_of f) (items_of g)
  items_of-join Nil g = refl
  items_of-join (Node p inside after) g = ap (Node p.item (items_of inside)) (items_of-join after g)

  -- a node added
  pub Is-append : (old new : Tree T) (n : ℕ) (x : T) (here : Forest T) (up : List (Opened T)) → ((z : Zip T) → Holds old z → CanAppend z → Holds new (appended n x z)) → Is old here up → Is new (join here (one x Nil)) up
  Is-append old new n x here up step is = grind (arith, items_of-join)

  -- a node opened
  pub Is-open : (old mid new : Tree T) (n : ℕ) (x : T) (here : Forest T) (up : List (Opened T)) → ((z : Zip T) → Holds old z → CanAppend z → Holds mid (appended n x z)) → ((z : Zip T) → Holds mid z → HasFocus z → Holds new (pushed z)) → Is old here up → Is new Nil (record { left = here; item = x } ∷ up)
  Is-open old mid new n x here up step down is = record {
    z = pushed (appended n x is.z);
    holds = down (appended n x is.z) (step is.z is.holds is.last) tt;
    last = refl;
    at_end = (refl, is.at_end);
    here_is = refl;
    up_is = ap (λ f. record { left = f; item = x } ∷ opened is.z.up) is.here_is ∙ ap (λ u. record { left = here; item = x } ∷ u) is.up_is;
  }

  -- the innermost open node closed
  pub Is-close : (old new : Tree T) (here : Forest T) (v : Opened T) (up : List (Opened T)) → ((z : Zip T) → Holds old z → Holds new (popped z)) → Is old here (v ∷ up) → Is new (closed v here) up
  Is-close old new here v up step is = grind (arith, items_of-join)

  -- a tree in which nothing changed
  pub Holds-unchanged : (old new : Tree T) (z : Zip T) → IsUnchanged old new → Holds old z → Holds new z
  Holds-unchanged old new z u h = grind arith

  pub Is-unchanged : (old new : Tree T) (here : Forest T) (up : List (Opened T)) → IsUnchanged old new → Is old here up → Is new here up
  Is-unchanged old new here up u is = grind (arith, Holds-unchanged)
