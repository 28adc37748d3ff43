-- Forests with a path and a focus, and the effect of a tree's calls on them.
use Rattle.std.specs.Prelude.{◌≡◌, ℕ, List, [], ◌∷◌}
use Rattle.cmark_tree.specs.Forest.{Forest, Nil, Node, join, one}
use Rattle.cmark_tree.specs.Arena.{Placed, relink_next, relink_child, replace_item, pick}

-- a node of the path, with the siblings before it and after it
pub record Level (T : Type 0) : Type 0 where
  pub left : Forest (Placed T)
  pub place : Placed T
  pub right : Forest (Placed T)

-- The siblings before the focus, those from the focus on, and the nodes above, the innermost first. If no sibling is left there is no
-- focus.
pub record Zip (T : Type 0) : Type 0 where
  pub left : Forest (Placed T)
  pub right : Forest (Placed T)
  pub up : List (Level T)

module _ {T : Type 0} where
  -- the forest with these siblings inside that path
  abbrev pub plug : List (Level T) → Forest (Placed T) → Forest (Placed T)
  plug [] f = f
  plug (v ∷ up) f = plug up (join v.left (Node v.place f v.right))

  -- the current siblings
  abbrev pub siblings : Zip T → Forest (Placed T)
  siblings z = join z.left z.right

  abbrev pub whole : Zip T → Forest (Placed T)
  whole z = plug z.up (siblings z)

  -- no node, at the path's beginning
  abbrev pub nothing : Zip T
  nothing = record { left = Nil; right = Nil; up = [] }

  -- there is no node after the focus, or, without a focus, at its place
  abbrev pub IsLast : Forest (Placed T) → Forest (Placed T) → Type 0
  IsLast left Nil = left ≡ Nil
  IsLast left (Node p inside after) = after ≡ Nil

  abbrev pub CanAppend : Zip T → Type 0
  CanAppend z = IsLast z.left z.right

  -- a node after the focus, which becomes the focus
  abbrev pub appended : ℕ → T → Zip T → Zip T
  appended ix x z = record { left = siblings z; right = one (record { ix = ix; item = x }) Nil; up = z.up }

  abbrev pub IsFocus : Forest (Placed T) → Type 0
  IsFocus Nil = ⊥
  IsFocus (Node p inside after) = Unit {0}

  abbrev pub HasFocus : Zip T → Type 0
  HasFocus z = IsFocus z.right

  abbrev pub push_to : Forest (Placed T) → Forest (Placed T) → List (Level T) → Zip T
  push_to left Nil up = record { left = left; right = Nil; up = up }
  push_to left (Node p inside after) up =
      record { left = Nil; right = inside; up = (record { left = left; place = p; right = after }) ∷ up }

  -- down to the focus's first child
  abbrev pub pushed : Zip T → Zip T
  pushed z = push_to z.left z.right z.up

  abbrev pub pop_to : Zip T → List (Level T) → Zip T
  pop_to z [] = z
  pop_to z (v ∷ up) = record { left = v.left; right = Node v.place (siblings z) v.right; up = up }

  -- up to the innermost node of the path, if there is one
  abbrev pub popped : Zip T → Zip T
  popped z = pop_to z z.up

  -- a current sibling
  pub record Sibling (z : Zip T) (ix : ℕ) : Type 0 where
    pub left : Forest (Placed T)
    pub place : Placed T
    pub inside : Forest (Placed T)
    pub after : Forest (Placed T)
    pub split : siblings z ≡ join left (Node place inside after)
    pub at : place.ix ≡ ix

  -- to the sibling after that one
  abbrev pub past : (z : Zip T) (ix : ℕ) → Sibling z ix → Zip T
  past z ix s = record { left = join s.left (one s.place s.inside); right = s.after; up = z.up }

  -- to the first tree
  abbrev pub at_first : Zip T → Zip T
  at_first z = record { left = Nil; right = whole z; up = [] }

  -- with other siblings after a node, or other children of it
  abbrev pub next_relinked : ℕ → Forest (Placed T) → Zip T → Zip T
  next_relinked ix g z = record z { right = relink_next ix g z.right }

  abbrev pub child_relinked : ℕ → Forest (Placed T) → Zip T → Zip T
  child_relinked ix g z = record z { right = relink_child ix g z.right }

  abbrev pub replace_in_path : ℕ → T → List (Level T) → List (Level T)
  replace_in_path ix w [] = []
  replace_in_path ix w (v ∷ up) =
      record { left = replace_item ix w v.left; place = record v.place { item = pick v.place.ix ix w v.place.item }; right = replace_item ix w v.right } ∷ replace_in_path ix w up

  -- with another item at a node
  abbrev pub item_replaced : ℕ → T → Zip T → Zip T
  item_replaced ix w z = record { left = replace_item ix w z.left; right = replace_item ix w z.right; up = replace_in_path ix w z.up }
