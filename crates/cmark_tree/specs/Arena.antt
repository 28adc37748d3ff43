-- The ordered forest that the links between numbered nodes form.
use Rattle.std.specs.Prelude.{◌≡◌, ℕ, ◌+◌, ◌<◌, ◌≤◌, nat_eq, cond, Option, Some}
use Rattle.cmark_tree.specs.Forest.{Forest, Nil, Node}

-- a node: its item, and the places of its first child and of its next sibling; 0 is no node
pub record Entry (T : Type 0) : Type 0 where
  pub item : T
  pub child : ℕ
  pub next : ℕ

-- an item at its place
pub record Placed (T : Type 0) : Type 0 where
  pub ix : ℕ
  pub item : T

-- 1 if the two numbers are equal, else 0
unfoldable pub hit : ℕ → ℕ → ℕ
hit a b = cond (nat_eq a b) 1 0

-- the first of two values if the two numbers are equal, else the second
unfoldable pub pick : {A : Type 0} → ℕ → ℕ → A → A → A
pick a b x y = cond (nat_eq a b) x y

module _ {T : Type 0} where
  -- the place of the first tree, or 0
  abbrev pub first : Forest (Placed T) → ℕ
  first Nil = 0
  first (Node p inside after) = p.ix

  -- the nodes at the places of the forest are those of the forest, with links to their first children and next siblings
  abbrev pub Stands : (ℕ → Option (Entry T)) → Forest (Placed T) → Type 0
  Stands at Nil = Unit {0}
  Stands at (Node p inside after) =
      (at p.ix ≡ Some (record { item = p.item; child = first inside; next = first after })) × Stands at inside × Stands at after

  -- the number of times that a place occurs in a forest
  abbrev pub times : ℕ → Forest (Placed T) → ℕ
  times i Nil = 0
  times i (Node p inside after) = hit p.ix i + (times i inside + times i after)

  -- a place of the forest
  abbrev pub In : ℕ → Forest (Placed T) → Type 0
  In i f = 0 < times i f

  -- no node is reached twice
  abbrev pub IsOnce : Forest (Placed T) → Type 0
  IsOnce f = (i : ℕ) → times i f ≤ 1

  -- the two forests have no node in common
  abbrev pub IsApart : Forest (Placed T) → Forest (Placed T) → Type 0
  IsApart f g = (i : ℕ) → In i f → In i g → ⊥

  -- the items in order, without their places
  abbrev pub items_of : Forest (Placed T) → Forest T
  items_of Nil = Nil
  items_of (Node p inside after) = Node p.item (items_of inside) (items_of after)

  -- The links form this forest: each leads to the node at its place, the first tree is at `start`, and no node is reached twice.
  pub record IsForest (at : ℕ → Option (Entry T)) (start : ℕ) (f : Forest (Placed T)) : Type 0 where
    pub stands : Stands at f
    pub once : IsOnce f
    pub start_is : start ≡ first f

  -- other siblings after the node of this number
  abbrev pub relink_next : ℕ → Forest (Placed T) → Forest (Placed T) → Forest (Placed T)
  relink_next ix g Nil = Nil
  relink_next ix g (Node p inside after) = Node p (relink_next ix g inside) (pick p.ix ix g (relink_next ix g after))

  -- other children of the node of this number
  abbrev pub relink_child : ℕ → Forest (Placed T) → Forest (Placed T) → Forest (Placed T)
  relink_child ix g Nil = Nil
  relink_child ix g (Node p inside after) = Node p (pick p.ix ix g (relink_child ix g inside)) (relink_child ix g after)

  -- another item at the node of this number
  abbrev pub replace_item : ℕ → T → Forest (Placed T) → Forest (Placed T)
  replace_item ix w Nil = Nil
  replace_item ix w (Node p inside after) =
      Node (record p { item = pick p.ix ix w p.item }) (replace_item ix w inside) (replace_item ix w after)
