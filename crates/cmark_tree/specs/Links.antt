-- The links of a tree's nodes. No other file of specs/ knows how they are stored.
use Rattle.std.specs.Prelude.{ℕ, ◌-◌, ◌^◌, min, List, vec_capacity}
use Rattle.cmark_tree.specs.declared.links.Link.{Link}
use Rattle.cmark_tree.specs.declared.links.Links.{Links}
use Rattle.cmark_tree.specs.declared.links.Links.TheVariants as stored

-- the links of each node, in the order of the nodes' numbers
abbrev pub links_of : Links → List (Link ℕ)
links_of (stored.Narrow links) = links.items
links_of (stored.Wide links) = links.items

-- The number of nodes for whose links there is room. A narrow link holds numbers below 2 ^ 32.
abbrev pub links_room : Links → ℕ
links_room (stored.Narrow links) = min (vec_capacity links) (2 ^ 32 - 1)
links_room (stored.Wide links) = vec_capacity links

-- the links of a node that has none
abbrev pub no_links : Link ℕ
no_links = record { next = 0; child = 0 }

-- with another next sibling, or another first child
abbrev pub linked_next : ℕ → Link ℕ → Link ℕ
linked_next to l = record l { next = to }

abbrev pub linked_child : ℕ → Link ℕ → Link ℕ
linked_child to l = record l { child = to }
