-- The conditions under which a tree's siblings may be cut.
use Rattle.std.specs.Prelude.{◌≡◌, ℕ, List, [], ◌∷◌, Some, None, Bool, if◌then◌else◌}
use Rattle.cmark_tree.specs.declared.nodes.Nodes.{Nodes}
use Rattle.cmark_tree.specs.declared.tree.Tree.{Tree}
use Rattle.cmark_tree.specs.declared.tree_index.TreeIndex.{TreeIndex}
use Rattle.cmark_tree.specs.Forest.{Forest, Node, join}
use Rattle.cmark_tree.specs.Arena.{Placed, first, Stands, IsOnce, IsForest}
use Rattle.cmark_tree.specs.Nodes.{node_at, IsChanged, with_other_item}
use Rattle.cmark_tree.specs.Zip.{Level, Zip, plug, siblings}
use Rattle.cmark_tree.specs.Tree.{Holds, entry_at, parent_of}
use Rattle.cmark_tree.specs.Truncating.{Spans, NoEscapedAtZero, last_place, shortened}

module _ {T : Type 0} where
  -- the siblings from that number on
  pub record IsChildren (nodes : Nodes T) (f : Forest (Placed T)) (head : ℕ) : Type 0 where
    pub stands : Stands (node_at nodes) f
    pub once : IsOnce f
    pub head_is : head ≡ first f

  -- some siblings begin with that number
  abbrev pub HasChildren : Nodes T → (head : ℕ) → Type 0
  HasChildren nodes head = ∥ ((f : Forest (Placed T)) × IsChildren nodes f head) ∥₁

  -- that number belongs to a sibling from `head` on
  abbrev pub IsAmong : Nodes T → (head ix : ℕ) → Type 0
  IsAmong nodes head ix = ∥ ((done : Forest (Placed T)) × (p : Placed T) × (inside : Forest (Placed T)) × (after : Forest (Placed T)) × IsChildren nodes (join done (Node p inside after)) head × (p.ix ≡ ix)) ∥₁

  abbrev pub HasParent : List (Level T) → Type 0
  HasParent [] = ⊥
  HasParent (v ∷ up) = Unit {0}

  -- some siblings inside that parent may end with that one
  abbrev pub CanEnd : Tree T → TreeIndex → ℕ → Type 0
  CanEnd t parent last = ∥ ((done : Forest (Placed T)) × (rest : Forest (Placed T)) × (up : List (Level T))
      × IsForest (entry_at t) t.first (plug up (join done rest)) × (parent_of up ≡ Some parent) × (last_place done ≡ last)) ∥₁

  -- there is a parent, and no escaped child of it begins at byte 0
  abbrev pub CanTruncate : Spans T → Tree T → Type 0
  CanTruncate s t = (z : Zip T) × Holds t z × HasParent z.up × NoEscapedAtZero s (siblings z)

  -- the node gets the rest of its item; if nothing is left, it has some item
  pub record IsShortened (s : Spans T) (to : ℕ) (old new : Nodes T) (at : ℕ) (x : T) (left : Bool) : Type 0 where
    pub item : T
    pub changed : IsChanged old new at (with_other_item item)
    pub is : shortened s to x ≡ (if left then Some item else None)
