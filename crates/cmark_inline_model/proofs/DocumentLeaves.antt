-- The leaves of a document that is derived are in order.
use Rattle.cmark_grammar.specs.TagEnd.{end_of}
use Rattle.cmark_grammar.specs.Tag as tag
use Rattle.cmark_grammar.specs.Tag.{Tag}
use Rattle.cmark_grammar.specs.Event.{Ranged, Start, End}
use Rattle.std.proofs.Common.{Bool, true, false, ℕ, ◌≤◌, List, [], ◌∷◌, ◌++◌, arith, ◌≡◌, refl, sym, true≢false, zero, suc, ◌⊎◌, ap}
use Rattle.cmark_grammar.specs.BlockDocument.{BlockKind, DefinitionListTitle, BlockNode, BlockDocument, Nil, Node}
use Rattle.cmark_grammar.specs.BlockReading.{Reads, Around, First, Silent, starts_before, over, first_event, read_as, is_leaf, is_title, title_as, begins_title, starts_of}
use Rattle.cmark_grammar.specs.LeafText.{InTurn}
use Rattle.cmark_block_model.specs.Ranges.{InOrder}
use Rattle.cmark_grammar.specs.SpanDocuments.{Segment, Given, Content, stretches_of, inside_of, node_segments, first_of_segments, with_first_segment, segments}
use Rattle.cmark_inline_model.specs.LeafModel.{AreLeavesInTurn}

pub order-up : (from : ℕ) (document : BlockDocument) (to : ℕ) → InOrder from document to → from ≤ to
order-up from Nil to h = h
order-up from (Node node inside after) to h =
    let a = h.0 in let b = order-up node.start inside node.end h.1 in let c = order-up node.end after to h.2 in omega arith

pub stretches-turn : (from low : ℕ) (document : BlockDocument) (to size : ℕ) → low ≤ from → to ≤ size → InOrder from document to → InTurn low (stretches_of document) size
stretches-turn from low Nil to size l u h = let a : from ≤ to = h in omega arith
stretches-turn from low (Node node inside after) to size l u h =
    let a = h.0 in let b = order-up node.start inside node.end h.1 in (omega arith, b, stretches-turn node.end node.end after to size (omega arith) u h.2)

leaves_append : (size : ℕ) (a b : List Segment) → AreLeavesInTurn size a → AreLeavesInTurn size b → AreLeavesInTurn size (a ++ b)
leaves_append size [] b h k = k
leaves_append size (Given r ∷ a) b h k = leaves_append size a b h k
leaves_append size (Content leaf ∷ a) b h k = (h.0, leaves_append size a b h.1 k)

inside_turn : (size : ℕ) (kind : BlockKind) (content : BlockDocument) (others : List Segment) → InTurn 0 (stretches_of content) size → AreLeavesInTurn size others → AreLeavesInTurn size (inside_of kind content others)
inside_turn size kind content others h k = grind arith

node_turn : (size : ℕ) (reads : Reads) (node : BlockNode) (inside : List Segment) → AreLeavesInTurn size inside → AreLeavesInTurn size (node_segments reads node inside)
node_turn size reads node inside h = grind (arith, leaves_append)

first_turn : (size : ℕ) (element : ℕ) (r : Ranged) (others : List Segment) → AreLeavesInTurn size others → AreLeavesInTurn size (first_of_segments element (Given r) others)
first_turn size zero r others h = h
first_turn size (suc element) r [] h = tt
first_turn size (suc element) r (Given x ∷ others) h = first_turn size element r others h
first_turn size (suc element) r (Content leaf ∷ others) h = (h.0, first_turn size element r others h.1)

with_turn : (size : ℕ) (reads : Reads) (element : ℕ) (node : BlockNode) (others : List Segment) → AreLeavesInTurn size others → AreLeavesInTurn size (with_first_segment (first_event reads) element node others)
with_turn size (First event) element node others h = first_turn size element (over node event) others h
with_turn size _ element node others h = h

pub segments-turn : (size from : ℕ) (document : BlockDocument) (to : ℕ) → to ≤ size → InOrder from document to → AreLeavesInTurn size (segments document)
segments-turn size from Nil to u h = tt
segments-turn size from (Node node inside after) to u h =
    let c = order-up node.end after to h.2 in
    let own = inside_of node.kind inside (segments inside) in
    with_turn size (read_as node.kind) (starts_before after) node (node_segments (read_as node.kind) node own ++ segments after)
    (leaves_append size (node_segments (read_as node.kind) node own) (segments after)
    (node_turn size (read_as node.kind) node own
    (inside_turn size node.kind inside (segments inside) (stretches-turn node.start 0 inside node.end size (omega arith) (omega arith) h.1) (segments-turn size node.start inside node.end (omega arith) h.1)))
    (segments-turn size node.end after to u h.2))

-- a title that begins gives its start first
titled-start : (document : BlockDocument) → begins_title document ≡ true → (r : Ranged) × (others : List Segment) × (segments document ≡ Given r ∷ others) × (r.event ≡ Start tag.DefinitionListTitle)
titled-start Nil e = absurd (true≢false (sym e))
titled-start (Node node inside after) e = go (is_title node.kind) refl (read_as node.kind) refl (inside_of node.kind inside (segments inside)) (titled-start after) e
  where
    tag-of : (kind : BlockKind) (t : Tag) → is_title kind ≡ true → read_as kind ≡ Around t → t ≡ tag.DefinitionListTitle
    tag-of DefinitionListTitle t q r = let w : Around tag.DefinitionListTitle ≡ Around t = r in cc
    tag-of _ t q r = absurd (true≢false (sym q))

    go : (z : Bool) → is_title node.kind ≡ z → (reads : Reads) → read_as node.kind ≡ reads → (own : List Segment) → (begins_title after ≡ true → (r : Ranged) × (others : List Segment) × (segments after ≡ Given r ∷ others) × (r.event ≡ Start tag.DefinitionListTitle)) → title_as z reads (begins_title after) ≡ true
        → (r : Ranged) × (others : List Segment) × (with_first_segment (first_event reads) (starts_before after) node (node_segments reads node own ++ segments after) ≡ Given r ∷ others) × (r.event ≡ Start tag.DefinitionListTitle)
    go true t (Around x) r own ih q = (over node (Start x), (own ++ (Given (over node (End (end_of x))) ∷ [])) ++ segments after, refl, ap Start (tag-of node.kind x t r))
    go false t (Around x) r own ih q = absurd (true≢false (sym q))
    go z t Silent r own ih q = ih q
    go z t _ r own ih q = absurd (true≢false (sym q))

starts-are : (kind : BlockKind) (titled : Bool) → (starts_of kind titled ≡ 0) ⊎ ((starts_of kind titled ≡ 1) ⊎ ((titled ≡ true) × (starts_of kind titled ≡ 2) × (is_leaf kind ≡ false)))
starts-are kind titled = grind arith

-- an element that begins gives its start first; if two begin, the second is a title
abbrev pub StartsWith : ℕ → List Segment → Type 0
StartsWith zero all = Unit {0}
StartsWith (suc zero) all = (r : Ranged) × (others : List Segment) × (all ≡ Given r ∷ others) × (t : Tag) × (r.event ≡ Start t)
StartsWith (suc (suc zero)) all = (r x : Ranged) × (others : List Segment) × (all ≡ Given r ∷ (Given x ∷ others)) × (t : Tag) × (r.event ≡ Start t) × (x.event ≡ Start tag.DefinitionListTitle)
StartsWith (suc (suc (suc n))) all = ⊥

pub begins-start : (document : BlockDocument) → StartsWith (starts_before document) (segments document)
begins-start Nil = tt
begins-start (Node node inside after) = grind (arith, titled-start, starts-are, begins-start after)
