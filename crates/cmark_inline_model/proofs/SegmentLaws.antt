-- The segments of a document: its blocks are no links and need no option of spans, and its leaves are in order.
use Rattle.std.proofs.Common.{◌≡◌, ℕ, ◌≤◌, List, [], ◌∷◌, ◌++◌, arith, zero, suc}
use Rattle.cmark_grammar.specs.BlockDocument.{BlockKind, BlockNode, BlockDocument, Nil, Node}
use Rattle.cmark_grammar.specs.BlockReading.{Reads, Around, Inside, Alone, First, Silent, starts_before, first_event, read_as, over}
use Rattle.cmark_grammar.specs.Event.{Event, Start, End, Ranged}
use Rattle.cmark_grammar.specs.LeafText.{Stretch, InTurn}
use Rattle.cmark_grammar.specs.Options.{Options}
use Rattle.cmark_block_model.specs.Ranges.{InOrder}
use Rattle.cmark_grammar.specs.SpanDocuments.{Segment, Given, Content, leaf_of, inside_of, node_segments, first_of_segments, with_first_segment, segments}
use Rattle.cmark_grammar.specs.TagEnd.{end_of}
use Rattle.cmark_inline_model.specs.OptionRules.{IsGiven}
use Rattle.cmark_inline_model.specs.ReadingLinks.{Neither, link_event}
use Rattle.cmark_inline_model.proofs.DocumentLeaves.{order-up, stretches-turn}

-- ## Blocks

-- this holds of each event of the blocks
abbrev pub AllGiven : (Event → Type 0) → List Segment → Type 0
AllGiven Holds [] = Unit {0}
AllGiven Holds (Given r ∷ others) = Holds r.event × AllGiven Holds others
AllGiven Holds (Content leaf ∷ others) = AllGiven Holds others

abbrev GivenBy : (Event → Type 0) → Reads → Type 0
GivenBy Holds (Around tag) = Holds (Start tag) × Holds (End (end_of tag))
GivenBy Holds Inside = Unit {0}
GivenBy Holds (Alone event) = Holds event
GivenBy Holds (First event) = Holds event
GivenBy Holds Silent = Unit {0}

given_append : (Holds : Event → Type 0) (a b : List Segment) → AllGiven Holds a → AllGiven Holds b → AllGiven Holds (a ++ b)
given_append Holds [] b h k = k
given_append Holds (Given r ∷ a) b h k = (h.0, given_append Holds a b h.1 k)
given_append Holds (Content leaf ∷ a) b h k = given_append Holds a b h k

inside_given : (Holds : Event → Type 0) (kind : BlockKind) (content : BlockDocument) (others : List Segment) → AllGiven Holds others → AllGiven Holds (inside_of kind content others)
inside_given Holds kind content others k = grind arith

node_given : (Holds : Event → Type 0) (reads : Reads) (node : BlockNode) (inside : List Segment) → GivenBy Holds reads → AllGiven Holds inside → AllGiven Holds (node_segments reads node inside)
node_given Holds reads node inside h k = grind (arith, given_append)

first_given : (Holds : Event → Type 0) (element : ℕ) (r : Ranged) (others : List Segment) → Holds r.event → AllGiven Holds others → AllGiven Holds (first_of_segments element (Given r) others)
first_given Holds zero r others h k = (h, k)
first_given Holds (suc element) r [] h k = (h, tt)
first_given Holds (suc element) r (Given x ∷ others) h k = (k.0, first_given Holds element r others h k.1)
first_given Holds (suc element) r (Content leaf ∷ others) h k = first_given Holds element r others h k

with_given : (Holds : Event → Type 0) (reads : Reads) (element : ℕ) (node : BlockNode) (others : List Segment) → GivenBy Holds reads → AllGiven Holds others → AllGiven Holds (with_first_segment (first_event reads) element node others)
with_given Holds reads element node others h k = grind (arith, first_given)

segments_given : (Holds : Event → Type 0) → ((kind : BlockKind) → GivenBy Holds (read_as kind)) → (document : BlockDocument) → AllGiven Holds (segments document)
segments_given Holds kinds Nil = tt
segments_given Holds kinds (Node node inside after) =
    let own = inside_of node.kind inside (segments inside) in
    with_given Holds (read_as node.kind) (starts_before after) node (node_segments (read_as node.kind) node own ++ segments after) (kinds node.kind)
    (given_append Holds (node_segments (read_as node.kind) node own) (segments after)
    (node_given Holds (read_as node.kind) node own (kinds node.kind) (inside_given Holds node.kind inside (segments inside) (segments_given Holds kinds inside)))
    (segments_given Holds kinds after))

-- no event of these begins or ends a link
abbrev pub AreNeither : List Segment → Type 0
AreNeither others = AllGiven (λ e. link_event e ≡ Neither) others

kind_neither : (kind : BlockKind) → GivenBy (λ e. link_event e ≡ Neither) (read_as kind)
kind_neither kind = grind arith

pub segments-neither : (document : BlockDocument) → AreNeither (segments document)
segments-neither document = segments_given (λ e. link_event e ≡ Neither) kind_neither document

-- no event of these needs an option of spans
kind_optionless : (options : Options) (kind : BlockKind) → GivenBy (IsGiven options) (read_as kind)
kind_optionless options kind = grind arith

pub segments-optionless : (options : Options) (document : BlockDocument) → AllGiven (IsGiven options) (segments document)
segments-optionless options document = segments_given (IsGiven options) (kind_optionless options) document

-- ## Leaves

-- the leaves between two offsets are in order
abbrev pub LeavesRise : (from : ℕ) → List Segment → (to : ℕ) → Type 0
LeavesRise from [] to = from ≤ to
LeavesRise from (Given r ∷ others) to = LeavesRise from others to
LeavesRise from (Content leaf ∷ others) to = (mid : ℕ) × InTurn from leaf.stretches mid × LeavesRise mid others to

rise_from : (less from : ℕ) (others : List Segment) (to : ℕ) → less ≤ from → LeavesRise from others to → LeavesRise less others to
rise_from less from [] to e h = let x : from ≤ to = h in omega arith
rise_from less from (Given r ∷ others) to e h = rise_from less from others to e h
rise_from less from (Content leaf ∷ others) to e h = (h.0, turn leaf.stretches h.1, h.2)
  where
    turn : (stretches : List Stretch) → InTurn from stretches h.0 → InTurn less stretches h.0
    turn [] k = let x : from ≤ h.0 = k in omega arith
    turn (s ∷ more) k = (let x = k.0 in omega arith, k.1, k.2)

rise_append : (from mid to : ℕ) (a b : List Segment) → LeavesRise from a mid → LeavesRise mid b to → LeavesRise from (a ++ b) to
rise_append from mid to [] b h k = rise_from from mid b to h k
rise_append from mid to (Given r ∷ a) b h k = rise_append from mid to a b h k
rise_append from mid to (Content leaf ∷ a) b h k = (h.0, h.1, rise_append h.0 mid to a b h.2 k)

leaf_rise : (from to : ℕ) (kind : BlockKind) (content : BlockDocument) → InOrder from content to → LeavesRise from (Content (leaf_of kind content) ∷ []) to
leaf_rise from to kind content h = (to, stretches-turn from from content to to (omega arith) (omega arith) h, (let x : to ≤ to = omega arith in x))

inside_rise : (from to : ℕ) (kind : BlockKind) (content : BlockDocument) (others : List Segment) → InOrder from content to → LeavesRise from others to → LeavesRise from (inside_of kind content others) to
inside_rise from to kind content others h k = grind (arith, leaf_rise)

node_rise : (from to : ℕ) (reads : Reads) (node : BlockNode) (inside : List Segment) → from ≤ to → LeavesRise from inside to → LeavesRise from (node_segments reads node inside) to
node_rise from to reads node inside e h = grind (arith, rise_append)

first_rise : (from to : ℕ) (element : ℕ) (r : Ranged) (others : List Segment) → LeavesRise from others to → LeavesRise from (first_of_segments element (Given r) others) to
first_rise from to zero r others h = h
first_rise from to (suc element) r [] h = h
first_rise from to (suc element) r (Given x ∷ others) h = first_rise from to element r others h
first_rise from to (suc element) r (Content leaf ∷ others) h = (h.0, h.1, first_rise h.0 to element r others h.2)

with_rise : (from to : ℕ) (reads : Reads) (element : ℕ) (node : BlockNode) (others : List Segment) → LeavesRise from others to → LeavesRise from (with_first_segment (first_event reads) element node others) to
with_rise from to (First event) element node others h = first_rise from to element (over node event) others h
with_rise from to _ element node others h = h

pub segments-rise : (from : ℕ) (document : BlockDocument) (to : ℕ) → InOrder from document to → LeavesRise from (segments document) to
segments-rise from Nil to h = h
segments-rise from (Node node inside after) to h =
    let own = inside_of node.kind inside (segments inside) in
    let up = order-up node.start inside node.end h.1 in
    with_rise from to (read_as node.kind) (starts_before after) node (node_segments (read_as node.kind) node own ++ segments after)
    (rise_append from node.end to (node_segments (read_as node.kind) node own) (segments after)
    (rise_from from node.start (node_segments (read_as node.kind) node own) node.end h.0
    (node_rise node.start node.end (read_as node.kind) node own up (inside_rise node.start node.end node.kind inside (segments inside) h.1 (segments-rise node.start inside node.end h.1))))
    (segments-rise node.end after to h.2))
