-- A tree as a builder sees it, who adds nodes only at the end: the current siblings, and the open nodes around them.
use Rattle.std.specs.Prelude.{◌≡◌, ℕ, List, [], ◌∷◌, length}
use Rattle.cmark_tree.specs.declared.tree.Tree.{Tree}
use Rattle.cmark_tree.specs.Forest.{Forest, Nil, join, one}
use Rattle.cmark_tree.specs.Arena.{items_of, pick}
use Rattle.cmark_tree.specs.Zip.{Level, Zip, siblings, CanAppend}
use Rattle.cmark_tree.specs.Tree.{Holds}

-- an open node, with the siblings before it
pub record Opened (T : Type 0) : Type 0 where
  pub left : Forest T
  pub item : T

module _ {T : Type 0} where
  abbrev pub opened : List (Level T) → List (Opened T)
  opened [] = []
  opened (v ∷ up) = record { left = items_of v.left; item = v.place.item } ∷ opened up

  -- there is no node after those of the path
  abbrev pub IsAtEnd : List (Level T) → Type 0
  IsAtEnd [] = Unit {0}
  IsAtEnd (v ∷ up) = (v.right ≡ Nil) × IsAtEnd up

  -- These are the current siblings, inside these open nodes, the innermost first. The last sibling is the focus. There is no node after it
  -- or after an open node.
  pub record Is (t : Tree T) (here : Forest T) (up : List (Opened T)) : Type 0 where
    pub z : Zip T
    pub holds : Holds t z
    pub last : CanAppend z
    pub at_end : IsAtEnd z.up
    pub here_is : items_of (siblings z) ≡ here
    pub up_is : opened z.up ≡ up

  -- there are some current siblings inside some open nodes
  abbrev pub IsPlaced : Tree T → Type 0
  IsPlaced t = ∥ ((here : Forest T) × (up : List (Opened T)) × Is t here up) ∥₁

  -- the innermost open node is closed, and comes after its siblings
  abbrev pub closed : Opened T → Forest T → Forest T
  closed v here = join v.left (one v.item here)

  -- the open node that has `depth` nodes around it gets another item
  abbrev pub item_at_depth : ℕ → T → List (Opened T) → List (Opened T)
  item_at_depth depth w [] = []
  item_at_depth depth w (v ∷ up) =
      record v { item = pick (length up) depth w v.item } ∷ item_at_depth depth w up
