-- A forest read in preorder, and the part of the reading that is left from a focus on.
use Rattle.std.specs.Prelude.{List, [], ◌∷◌, ◌++◌}
use Rattle.cmark_tree.specs.Forest.{Forest, Nil, Node}
use Rattle.cmark_tree.specs.Arena.{Placed}
use Rattle.cmark_tree.specs.Zip.{Level, Zip}

-- a node is entered before its children, and left after them
pub data Visit (A : Type 0) : Type 0 where
  Enter : (x : A) → Visit A
  Leave : (x : A) → Visit A

-- the visits in preorder
abbrev pub reading : {A : Type 0} → Forest A → List (Visit A)
reading Nil = []
reading (Node x inside after) = Enter x ∷ (reading inside ++ Leave x ∷ reading after)

module _ {T : Type 0} where
  -- the visits after the current siblings
  abbrev pub reading_above : List (Level T) → List (Visit (Placed T))
  reading_above [] = []
  reading_above (v ∷ up) = Leave v.place ∷ (reading v.right ++ reading_above up)

  -- the visits from the focus on
  abbrev pub reading_from : Zip T → List (Visit (Placed T))
  reading_from z = reading z.right ++ reading_above z.up
