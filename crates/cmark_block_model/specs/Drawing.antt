-- A document while it is drawn from its beginning: the current siblings, and the open nodes around them.
use Rattle.std.specs.Prelude.{ℕ, Bool, List, [], ◌∷◌}
use Rattle.cmark_grammar.specs.BlockDocument.{BlockKind, BlockNode, BlockDocument, Nil, Node, join, node}
use Rattle.cmark_grammar.specs.Columns.{Column}
use Rattle.cmark_grammar.specs.SetextAttributes.{texts_before, without_braces}

-- an open node, with the siblings before it
pub record OpenNode : Type 0 where
  pub left : BlockDocument
  pub node : BlockNode

pub record Drawing : Type 0 where
  pub here : BlockDocument
  pub up : List OpenNode

abbrev pub nothing_drawn : Drawing
nothing_drawn = record { here = Nil; up = [] }

-- these nodes after the last sibling
abbrev pub drawn : BlockDocument → Drawing → Drawing
drawn document d = record d { here = join d.here document }

-- a node after the last sibling, which is then the innermost open one
abbrev pub opened : (start : ℕ) → BlockKind → Drawing → Drawing
opened start kind d = record { here = Nil; up = record { left = d.here; node = node kind start start } ∷ d.up }

-- the innermost open node is closed at this place, with this kind or with its own
abbrev pub close_as : BlockKind → (end : ℕ) → (here : BlockDocument) → List OpenNode → Drawing
close_as kind end here [] = record { here = here; up = [] }
close_as kind end here (v ∷ up) = record { here = join v.left (Node (node kind v.node.start end) here Nil); up = up }

abbrev pub closed_as : BlockKind → (end : ℕ) → Drawing → Drawing
closed_as kind end d = close_as kind end d.here d.up

abbrev pub close_at : (end : ℕ) → (here : BlockDocument) → List OpenNode → Drawing
close_at end here [] = record { here = here; up = [] }
close_at end here (v ∷ up) = record { here = join v.left (Node (node v.node.kind v.node.start end) here Nil); up = up }

abbrev pub closed_at : (end : ℕ) → Drawing → Drawing
closed_at end d = close_at end d.here d.up

-- only the last sibling
abbrev pub last_or : (own last : BlockDocument) → BlockDocument
last_or own Nil = own
last_or own (Node node inside after) = Node node inside after

abbrev pub last_of : BlockDocument → BlockDocument
last_of Nil = Nil
last_of (Node node inside after) = last_or (Node node inside Nil) (last_of after)

-- the siblings before the last one
abbrev pub before_or : BlockNode → (inside after before : BlockDocument) → BlockDocument
before_or node inside Nil before = Nil
before_or node inside (Node n i a) before = Node node inside before

abbrev pub before_last : BlockDocument → BlockDocument
before_last Nil = Nil
before_last (Node node inside after) = before_or node inside after (before_last after)

-- the first node with another kind, and the place at which it begins
abbrev pub as_kind : BlockKind → BlockDocument → BlockDocument
as_kind kind Nil = Nil
as_kind kind (Node n inside after) = Node (record n { kind = kind }) inside after

abbrev pub start_in : BlockDocument → ℕ
start_in Nil = 0
start_in (Node n inside after) = n.start

-- the last sibling with another kind
abbrev pub retitled : BlockKind → Drawing → Drawing
retitled kind d = record d { here = join (before_last d.here) (as_kind kind (last_of d.here)) }

-- the last sibling with another kind, in a new node around it, which is open
abbrev pub enclosed : (around kind : BlockKind) → Drawing → Drawing
enclosed around kind d = record {
  here = as_kind kind (last_of d.here);
  up = record { left = before_last d.here; node = node around (start_in (last_of d.here)) (start_in (last_of d.here)) } ∷ d.up;
}

-- the innermost open node is closed at this place, with this kind. Its last child is moved after it
abbrev pub release_as : BlockKind → (end : ℕ) → (here : BlockDocument) → List OpenNode → Drawing
release_as kind end here [] = record { here = here; up = [] }
release_as kind end here (v ∷ up) = record { here = join v.left (Node (node kind v.node.start end) (before_last here) (last_of here)); up = up }

abbrev pub released : BlockKind → (end : ℕ) → Drawing → Drawing
released kind end d = release_as kind end d.here d.up

-- the texts inside the innermost open node up to this place
abbrev pub cut_at : List ℕ → (place : ℕ) → (here : BlockDocument) → List OpenNode → Drawing
cut_at text place here [] = record { here = here; up = [] }
cut_at text place here (v ∷ up) = record { here = texts_before text place here; up = v ∷ up }

abbrev pub texts_cut : List ℕ → (place : ℕ) → Drawing → Drawing
texts_cut text place d = cut_at text place d.here d.up

-- the texts inside the innermost open node without the attributes at the end of this content, if attributes are read
abbrev pub unbraced : List ℕ → (attributes : Bool) → (content : List Column) → (here : BlockDocument) → List OpenNode → Drawing
unbraced text attributes content here [] = record { here = here; up = [] }
unbraced text attributes content here (v ∷ up) = record { here = without_braces text attributes content here; up = v ∷ up }
