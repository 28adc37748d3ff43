-- Ordered forests, by first child and next sibling.
use Rattle.std.specs.Prelude.{ℕ, ◌+◌}

-- no node, or a node with the nodes inside it and those after it
pub data Forest (A : Type 0) : Type 0 where
  Nil : Forest A
  Node : (x : A) → (inside after : Forest A) → Forest A

-- the second forest after the first
abbrev pub join : {A : Type 0} → Forest A → Forest A → Forest A
join Nil g = g
join (Node x inside after) g = Node x inside (join after g)

-- one tree
abbrev pub one : {A : Type 0} → A → Forest A → Forest A
one x inside = Node x inside Nil

-- the number of nodes
abbrev pub size : {A : Type 0} → Forest A → ℕ
size Nil = 0
size (Node x inside after) = 1 + (size inside + size after)
