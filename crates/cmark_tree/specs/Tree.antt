-- The forest, path and focus of a tree.
use Rattle.std.specs.Prelude.{◌≡◌, ℕ, zero, suc, List, [], ◌∷◌, ◌++◌, Option, Some, None}
use Rattle.cmark_tree.specs.declared.tree.Tree.{Tree}
use Rattle.cmark_tree.specs.declared.tree_index.TreeIndex.{TreeIndex}
use Rattle.cmark_tree.specs.Forest.{Forest, Nil, Node}
use Rattle.cmark_tree.specs.Arena.{Entry, Placed, first, Stands, IsOnce, IsForest, In}
use Rattle.cmark_tree.specs.Zip.{Level, Zip, whole, CanAppend, HasFocus, Sibling, next_relinked, child_relinked}
use Rattle.cmark_tree.specs.Nodes.{node_at, node_count, HasNumber, SameNodes}

-- the place that a link leads to, or 0
abbrev pub place_of : Option TreeIndex → ℕ
place_of None = 0
place_of (Some i) = i.ix

-- the node that a link leads to; the link 0 leads to no node
abbrev pub index_at : ℕ → Option TreeIndex
index_at zero = None
index_at (suc i) = Some (record { ix = suc i })

module _ {T : Type 0} where
  -- the node of this number
  abbrev pub entry_at : Tree T → ℕ → Option (Entry T)
  entry_at t = node_at t.nodes

  -- the number of nodes that were made
  abbrev pub tree_len : Tree T → ℕ
  tree_len t = node_count t.nodes

  -- a node of this number has been made
  abbrev pub HasNode : Tree T → ℕ → Type 0
  HasNode t ix = HasNumber t.nodes ix

  -- the number of the first of these siblings
  abbrev pub focus_of : Forest (Placed T) → Option TreeIndex
  focus_of Nil = None
  focus_of (Node p inside after) = Some (record { ix = p.ix })

  -- the number of the innermost node of a path
  abbrev pub parent_of : List (Level T) → Option TreeIndex
  parent_of [] = None
  parent_of (v ∷ up) = Some (record { ix = v.place.ix })

  -- the numbers of the nodes of a path, the outermost first
  abbrev pub spine_of : List (Level T) → List TreeIndex
  spine_of [] = []
  spine_of (v ∷ up) = spine_of up ++ record { ix = v.place.ix } ∷ []

  -- The tree is this forest with this path and this focus: its links form the forest, and the path has the nodes above the focus.
  pub record Holds (t : Tree T) (z : Zip T) : Type 0 where
    pub forest : IsForest (entry_at t) t.first (whole z)
    pub spine_is : t.spine.items ≡ spine_of z.up
    pub cur_is : t.cur ≡ first z.right

  -- the tree is some forest with a path
  abbrev pub IsTree : Tree T → Type 0
  IsTree t = (z : Zip T) × Holds t z

  -- there is no node at the place of the next one
  abbrev pub IsOpen : Tree T → Type 0
  IsOpen t = ∥ ((z : Zip T) × Holds t z × CanAppend z) ∥₁

  -- some node is the focus
  abbrev pub IsAtNode : Tree T → Type 0
  IsAtNode t = ∥ ((z : Zip T) × Holds t z × HasFocus z) ∥₁

  -- the node is among the current siblings
  abbrev pub IsAtSibling : Tree T → ℕ → Type 0
  IsAtSibling t ix = (z : Zip T) × Holds t z × Sibling z ix

  -- the same nodes
  abbrev pub KeepsNodes : Tree T → Tree T → Type 0
  KeepsNodes old new = SameNodes old.nodes new.nodes

  -- the same first tree, path and focus
  pub record KeepsPath (old new : Tree T) : Type 0 where
    pub first_is : new.first ≡ old.first
    pub spine_is : new.spine.items ≡ old.spine.items
    pub cur_is : new.cur ≡ old.cur

  -- nothing has changed
  pub record IsUnchanged (old new : Tree T) : Type 0 where
    pub nodes : KeepsNodes old new
    pub path : KeepsPath old new

  -- A link may be set from the node `ix` to the first of the siblings `g`. The node is the focus, or comes after it, or is inside the focus
  -- or a later sibling. The siblings are nodes of the tree. With them at their new place, as in `after`, no node is reached twice.
  pub record CanLink (t : Tree T) (z : Zip T) (ix to : ℕ) (g : Forest (Placed T)) (after : Zip T) : Type 0 where
    pub holds : Holds t z
    pub below : In ix z.right
    pub stands : Stands (entry_at t) g
    pub leads : first g ≡ to
    pub once : IsOnce (whole after)

  abbrev pub CanLinkNext : Tree T → ℕ → ℕ → Type 0
  CanLinkNext t ix to = (z : Zip T) × (g : Forest (Placed T)) × CanLink t z ix to g (next_relinked ix g z)

  abbrev pub CanLinkChild : Tree T → ℕ → ℕ → Type 0
  CanLinkChild t ix to = (z : Zip T) × (g : Forest (Placed T)) × CanLink t z ix to g (child_relinked ix g z)
