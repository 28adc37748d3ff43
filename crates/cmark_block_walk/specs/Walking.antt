-- The place of a walk in its document, and the events that it still has to give.
use Rattle.std.specs.Prelude.{◌≡◌, ◌⊎◌, if◌then◌else◌, ℕ, ◌<◌, ◌≤◌, Bool, true, false, List, [], ◌∷◌, ◌++◌, length, Option, Some, None}
use Rattle.std.specs.Str.{IsCharBoundary}
use Rattle.cmark_values.specs.declared.text.CowStr.{CowStr}
use Rattle.cmark_text.specs.declared.event.Event.{Event as TextEvent}
use Rattle.cmark_text.specs.declared.short.Short.{Short}
use Rattle.cmark_text.specs.Ranged.{shown_ranged}
use Rattle.cmark_text.specs.declared.ranged.Ranged.{Ranged}
use Rattle.cmark_text.specs.Short.{IsShortZeroCopy, ranged_short, shown_plain, shown_short}
use Rattle.cmark_text.specs.Shown.{shown}
use Rattle.cmark_tree.specs.Forest as forest
use Rattle.cmark_tree.specs.Forest.{Forest}
use Rattle.cmark_tree.specs.Arena.{Entry, Placed}
use Rattle.cmark_tree.specs.Zip.{Level, Zip}
use Rattle.cmark_tree.specs.declared.tree_index.TreeIndex.{TreeIndex}
use Rattle.cmark_tree.specs.Tree.{Holds, focus_of, entry_at}
use Rattle.cmark_grammar.specs.TagEnd.{TagEnd, end_of}
use Rattle.cmark_grammar.specs.Event as event
use Rattle.cmark_grammar.specs.BlockDocument as document
use Rattle.cmark_grammar.specs.BlockDocument.{BlockKind, BlockNode, BlockDocument, node}
use Rattle.cmark_grammar.specs.BlockReading as reads
use Rattle.cmark_grammar.specs.BlockReading.{Reads, read_as, over, is_title, begins_title, starts_before}
use Rattle.cmark_block_model.specs.DrawnDocument.{kind_within, settled}
use Rattle.cmark_grammar.specs.LeafText.{Stretch, Leaf}
use Rattle.cmark_block_model.specs.Ranges.{InOrder}
use Rattle.cmark_grammar.specs.SpanDocuments.{Segment, Given, Content, is_leaf, leaf_of, first_of_segments, segments}
use Rattle.cmark_block_model.specs.Tightness.{tight_within}
use Rattle.cmark_grammar.specs.Tokens.{slice}
use Rattle.cmark_references.specs.declared.definitions.RefDefs.{RefDefs}
use Rattle.cmark_items.specs.declared.item.Item.{Item}
use Rattle.cmark_items.specs.declared.item.ItemBody.{ItemBody}
use Rattle.cmark_items.specs.declared.item.ItemBody.TheVariants as body
use Rattle.cmark_items.specs.ItemNodes.{shown_item}
use Rattle.cmark_leaf_text.specs.declared.stretch.LeafLine.{LeafLine}
use Rattle.cmark_leaf_text.specs.Stretches.{AreLines}
use Rattle.cmark_block_walk.specs.declared.walk.Walk.{Walk}
use Rattle.cmark_block_walk.specs.declared.reading.BlockStep.{BlockStep}
use Rattle.cmark_block_walk.specs.declared.reading.BlockStep.TheVariants as brief
use Rattle.cmark_block_walk.specs.declared.reading.Glance.{Glance}
use Rattle.cmark_block_walk.specs.declared.reading.Glance.TheVariants as glance
use Rattle.cmark_block_walk.specs.declared.reading.Stage.{Stage}
use Rattle.cmark_block_walk.specs.declared.reading.Stage.TheVariants as stage

-- an item is this node, whose range has character boundaries of the text as its ends
pub record Drawn (text : List ℕ) (texts : List CowStr) (item : Item) (node : BlockNode) : Type 0 where
  pub shown : shown_item text texts item ≡ Some node
  pub in_order : node.start ≤ node.end
  pub within : node.end ≤ length text
  pub starts : IsCharBoundary text node.start
  pub ends : IsCharBoundary text node.end

-- a node around the focus, and the nodes after it
pub record Outer : Type 0 where
  pub node : BlockNode
  pub after : BlockDocument

-- the end of the text of a paragraph or a title that is one node with its only text
abbrev pub own_text_end : ItemBody → Option ℕ
own_text_end (body.ParagraphOf text_end) = Some text_end
own_text_end (body.DefinitionListTitleOf text_end) = Some text_end
own_text_end _ = None

-- these nodes are one text, whose range has character boundaries of the source as its ends
pub record IsOneText (text : List ℕ) (start text_end : ℕ) (nodes : BlockDocument) : Type 0 where
  pub is : nodes ≡ document.Node (node (document.Text (slice text start text_end)) start text_end) document.Nil document.Nil
  pub in_order : start ≤ text_end
  pub within : text_end ≤ length text
  pub starts : IsCharBoundary text start
  pub ends : IsCharBoundary text text_end

-- these nodes are inside an item that begins at a place: its own text, or else the nodes drawn below it
abbrev pub DrawsInside : List ℕ → (start : ℕ) → (own_text_end : Option ℕ) → (below : Type 0) → BlockDocument → Type 0
DrawsInside text start (Some text_end) below nodes = IsOneText text start text_end nodes
DrawsInside text start None below nodes = below

module _ (text : List ℕ) (texts : List CowStr) where
  -- a forest is a document, in which the nodes inside a node are in order within it
  abbrev pub Draws : Forest (Placed Item) → BlockDocument → Type 0
  Draws forest.Nil document.Nil = Unit {0}
  Draws forest.Nil (document.Node node inside after) = ⊥
  Draws (forest.Node p f g) document.Nil = ⊥
  Draws (forest.Node p f g) (document.Node node inside after) =
      Drawn text texts p.item node × DrawsInside text p.item.start (own_text_end p.item.body) (Draws f inside) inside × Draws g after × InOrder node.start inside node.end

  abbrev pub DrawsAbove : List (Level Item) → List Outer → Type 0
  DrawsAbove [] [] = Unit {0}
  DrawsAbove [] (o ∷ above) = ⊥
  DrawsAbove (v ∷ up) [] = ⊥
  DrawsAbove (v ∷ up) (o ∷ above) = Drawn text texts v.place.item o.node × Draws v.right o.after × DrawsAbove up above

-- whether a paragraph below these nodes is directly in an item of a tight list
abbrev pub tight_below : List Outer → Bool
tight_below [] = false
tight_below (o ∷ above) = tight_within (tight_below above) o.node.kind

abbrev pub IsElement : Reads → Type 0
IsElement (reads.Around tag) = Unit {0}
IsElement reads.Inside = ⊥
IsElement (reads.Alone event) = ⊥
IsElement (reads.First event) = ⊥
IsElement reads.Silent = ⊥

-- each of these nodes is an element: it is read as its start, the events inside it, and its end
abbrev pub AreElements : List Outer → Type 0
AreElements [] = Unit {0}
AreElements (o ∷ above) = IsElement (read_as (kind_within (tight_below above) o.node.kind)) × AreElements above

-- the end of an element, after the events inside it
abbrev pub leaving : Reads → BlockNode → List Segment
leaving (reads.Around tag) node = Given (over node (event.End (end_of tag))) ∷ []
leaving reads.Inside node = []
leaving (reads.Alone event) node = []
leaving (reads.First event) node = []
leaving reads.Silent node = []

-- the events and leaves after the current siblings
abbrev pub left_above : List Outer → List Segment
left_above [] = []
left_above (o ∷ above) =
    leaving (read_as (kind_within (tight_below above) o.node.kind)) o.node ++ (segments (settled (tight_below above) o.after) ++ left_above above)

-- the nodes inside the first of these nodes
abbrev pub content_of : BlockDocument → BlockDocument
content_of document.Nil = document.Nil
content_of (document.Node node inside after) = inside

-- the first of these nodes as a leaf
abbrev pub leaf_at : BlockDocument → Leaf
leaf_at document.Nil = record { stretches = []; is_cell = false }
leaf_at (document.Node node inside after) = leaf_of node.kind inside

-- the events and leaves of these nodes after the lines of the first, a leaf
abbrev pub left_after : BlockDocument → List Outer → List Segment
left_after document.Nil above = []
left_after (document.Node node inside after) above = leaving (read_as (kind_within (tight_below above) node.kind)) node ++ segments (settled (tight_below above) after)

-- a definition list
abbrev pub is_list : BlockKind → Bool
is_list (document.DefinitionList tight) = true
is_list _ = false

-- the events and leaves of these nodes after the start of the first, a definition list, with the task marker of its first title. The marker
-- comes after the title's start, or before all others if the list does not begin with a title
abbrev pub left_in_list : Segment → BlockDocument → List Outer → List Segment
left_in_list marker document.Nil above = []
left_in_list marker (document.Node node inside after) above =
    let within = settled (tight_within (tight_below above) node.kind) inside in
    first_of_segments (if begins_title within then 1 else 0) marker ((segments within ++ leaving (read_as (kind_within (tight_below above) node.kind)) node) ++ segments (settled (tight_below above) after))

-- the events and leaves of the current siblings that are left from the focus on, in the settled document. In a leaf its task marker and its
-- lines come first, unless they were met; in a definition list the task marker of its first title does
abbrev pub left_at : Stage → BlockDocument → List Outer → List Segment
left_at stage.Before here above = segments (settled (tight_below above) here)
left_at (stage.Marked is_checked start end) here above = Given (record { event = event.TaskListMarker is_checked; start = start; end = end }) ∷ (Content (leaf_at here) ∷ left_after here above)
left_at (stage.Listed is_checked start end) here above = left_in_list (Given (record { event = event.TaskListMarker is_checked; start = start; end = end })) here above
left_at stage.Lines here above = Content (leaf_at here) ∷ left_after here above
left_at stage.Following here above = left_after here above

abbrev pub left_from : Stage → BlockDocument → List Outer → List Segment
left_from stage here above = left_at stage here above ++ left_above above

-- the first of these nodes is a leaf
abbrev pub BeginsWithLeaf : BlockDocument → Type 0
BeginsWithLeaf document.Nil = ⊥
BeginsWithLeaf (document.Node node inside after) = is_leaf node.kind ≡ true

-- the first of these nodes is a definition list
abbrev pub BeginsWithList : BlockDocument → Type 0
BeginsWithList document.Nil = ⊥
BeginsWithList (document.Node node inside after) = is_list node.kind ≡ true

-- the stage is that of a leaf or of a definition list only if the focus is one
abbrev pub IsStaged : Stage → BlockDocument → Type 0
IsStaged stage.Before here = Unit {0}
IsStaged (stage.Marked is_checked start end) here = BeginsWithLeaf here
IsStaged (stage.Listed is_checked start end) here = BeginsWithList here
IsStaged stage.Lines here = BeginsWithLeaf here
IsStaged stage.Following here = BeginsWithLeaf here

-- the bytes of the text
abbrev pub text_of : Walk → List ℕ
text_of walk = walk.text.now

abbrev pub texts_of : Walk → List CowStr
texts_of walk = walk.allocations.texts

-- the definitions of links
abbrev pub definitions_of : Walk → RefDefs
definitions_of walk = walk.allocations.references

-- the item is a node of a document of the walk's text
abbrev pub IsDrawn : Walk → Item → Type 0
IsDrawn walk item = (node : BlockNode) × Drawn walk.text.now (texts_of walk) item node

-- the walk is inside these nodes, which are elements
pub record StandsBelow (walk : Walk) (z : Zip Item) (above : List Outer) : Type 0 where
  pub holds : Holds walk.tree z
  pub draws_above : DrawsAbove walk.text.now (texts_of walk) z.up above
  pub elements : AreElements above

abbrev pub IsBelow : Walk → Type 0
IsBelow walk = (z : Zip Item) × (above : List Outer) × StandsBelow walk z above

-- the walk is in its tree as in a document, before the nodes `here` and inside those of `above`
pub record StandsAt (walk : Walk) (z : Zip Item) (here : BlockDocument) (above : List Outer) : Type 0 where
  pub below : StandsBelow walk z above
  pub draws : Draws walk.text.now (texts_of walk) z.right here

-- the walk is in a document, and these events and leaves are left
pub record Remains (walk : Walk) (left : List Segment) : Type 0 where
  pub z : Zip Item
  pub here : BlockDocument
  pub above : List Outer
  pub stands : StandsAt walk z here above
  pub staged : IsStaged walk.stage here
  pub are : left ≡ left_from walk.stage here above

-- the walk is in a document
abbrev pub Goes : Walk → Type 0
Goes walk = (left : List Segment) × Remains walk left

-- the walk is in a document, before this node
abbrev pub IsAt : Walk → TreeIndex → Type 0
IsAt walk ix = Goes walk × ((z : Zip Item) → Holds walk.tree z → focus_of z.right ≡ Some ix)

-- the walk is in a document, after the last of the current siblings
abbrev pub IsPast : Walk → Type 0
IsPast walk = Goes walk × ((z : Zip Item) → Holds walk.tree z → focus_of z.right ≡ None)

-- these begin with the end of an element, or with a leaf without a text, after which an end may come
abbrev pub MayBeginWithEnd : List Segment → Type 0
MayBeginWithEnd [] = ⊥
MayBeginWithEnd (Given given ∷ others) = (end : TagEnd) × (given.event ≡ event.End end)
MayBeginWithEnd (Content leaf ∷ others) = leaf.stretches ≡ []

-- the next event is not an end
abbrev pub NoEndIsNext : Walk → Type 0
NoEndIsNext walk = (left : List Segment) → Remains walk left → MayBeginWithEnd left → ⊥

-- after a call that was refused memory: all events and leaves are still left, and the first is not an end
pub record LeavesTheSame (old new : Walk) : Type 0 where
  pub remains : (left : List Segment) → Remains old left → Remains new left
  pub no_end : NoEndIsNext old

-- the walk is in a document, of the same text and with the same definitions
pub record GoesOn (old new : Walk) : Type 0 where
  pub goes : Goes new
  pub definitions : definitions_of new ≡ definitions_of old
  pub text : text_of new ≡ text_of old

-- the largest number of steps without an event before a step with one: out of a paragraph of a tight list, and into the next one
abbrev pub silent_steps : Stage → ℕ
silent_steps stage.Before = 1
silent_steps (stage.Marked is_checked start end) = 0
silent_steps (stage.Listed is_checked start end) = 0
silent_steps stage.Lines = 0
silent_steps stage.Following = 2

-- the stretches of a leaf as the lines of its text
abbrev pub lines_of : List Stretch → List LeafLine
lines_of [] = []
lines_of (s ∷ more) = record { start = s.start; content_end = s.end; line_end = s.end } ∷ lines_of more

-- these are the lines of a leaf, in order in the text, and their ends are character boundaries
pub record AreLinesOf (text : List ℕ) (leaf : Leaf) (lines : List LeafLine) : Type 0 where
  pub are : lines ≡ lines_of leaf.stretches
  pub in_turn : AreLines text 0 lines

-- a call gives a leaf, the first of these events and leaves, and the others are left
abbrev pub GivesLeaf : List Segment → (is_cell : Bool) → List LeafLine → Walk → Type 0
GivesLeaf left is_cell lines walk = (leaf : Leaf) × (others : List Segment) × (left ≡ Content leaf ∷ others) × AreLinesOf walk.text.now leaf lines × Remains walk others × (is_cell ≡ leaf.is_cell)

-- there are no events and leaves
abbrev pub GivesNone : List Segment → Walk → Type 0
GivesNone left walk = (left ≡ []) × Remains walk []

-- this event is the first of those left, and the others remain
abbrev pub IsFirst : List Segment → event.Ranged → Walk → Type 0
IsFirst left given walk = (others : List Segment) × (left ≡ Given given ∷ others) × Remains walk others

-- the event of this result, with this range, is the first of those left, and the others remain
pub record GivesShort (old : Walk) (short : Short) (start end : ℕ) (new : Walk) : Type 0 where
  pub gives : (left : List Segment) → Remains old left → IsFirst left (ranged_short short start end) new
  pub lent : IsShortZeroCopy (text_of old) short start end

-- an element with a text of its own: a heading with attributes, fenced code, a table or a footnote definition
abbrev pub has_texts : ItemBody → Bool
has_texts (body.AttributedHeading level index) = true
has_texts (body.FencedCodeBlock index) = true
has_texts (body.Table index) = true
has_texts (body.FootnoteDefinition index) = true
has_texts _ = false

-- a text that does not occur in the source
abbrev pub is_synthesized : ItemBody → Bool
is_synthesized (body.SynthesizeText index) = true
is_synthesized (body.SynthesizeChar c) = true
is_synthesized _ = false

-- an item has a text that is kept apart from the source, or an element has a text of its own
abbrev pub OwnsText : ItemBody → Type 0
OwnsText body = (is_synthesized body ≡ true) ⊎ (has_texts body ≡ true)

-- whether the box of a task marker is checked, if an item is one
abbrev pub task_body : ItemBody → Option Bool
task_body (body.TaskListMarker is_checked) = Some is_checked
task_body _ = None

-- the event of this item is not a short one
abbrev pub is_long : ItemBody → Bool
is_long (body.TaskListMarker is_checked) = true
is_long (body.SynthesizeText index) = true
is_long (body.SynthesizeChar c) = true
is_long body = has_texts body

-- the item of a node
abbrev pub IsItemAt : Walk → TreeIndex → Item → Type 0
IsItemAt walk ix item = (e : Entry Item) → entry_at walk.tree ix.ix ≡ Some e → item ≡ e.item

abbrev pub IsLongItemAt : Walk → TreeIndex → Type 0
IsLongItemAt walk ix = (e : Entry Item) → entry_at walk.tree ix.ix ≡ Some e → is_long e.item.body ≡ true

-- whether the next event at a stage is not a short one
abbrev pub IsLongFrom : Stage → Walk → TreeIndex → Type 0
IsLongFrom stage.Before walk ix = IsLongItemAt walk ix
IsLongFrom (stage.Marked is_checked start end) walk ix = Unit {0}
IsLongFrom (stage.Listed is_checked start end) walk ix = Unit {0}
IsLongFrom stage.Lines walk ix = ⊥
IsLongFrom stage.Following walk ix = ⊥

-- the walk is before this node, or in it, and the next event is not a short one
pub record IsLongAt (walk : Walk) (ix : TreeIndex) : Type 0 where
  pub at : IsAt walk ix
  pub long : IsLongFrom walk.stage walk ix

-- the next event is not a short one
abbrev pub IsLong : Walk → Type 0
IsLong walk = (ix : TreeIndex) × IsLongAt walk ix

-- a call gives the first of those left, and the others remain; if that is an event of another kind, it is still the next one
abbrev pub GivesBrief : Walk → BlockStep → List LeafLine → Walk → Type 0
GivesBrief old (brief.Short short start end) lines new = GivesShort old short start end new
GivesBrief old (brief.Leaf is_cell) lines new = (left : List Segment) → Remains old left → GivesLeaf left is_cell lines new
GivesBrief old brief.Long lines new = ((left : List Segment) → Remains old left → Remains new left) × IsLong new
GivesBrief old brief.Over lines new = (left : List Segment) → Remains old left → GivesNone left new

-- the result of a step, which may give nothing
abbrev pub GivesStep : Walk → Option BlockStep → List LeafLine → Walk → Type 0
GivesStep old None lines new = (left : List Segment) → Remains old left → Remains new left
GivesStep old (Some brief) lines new = GivesBrief old brief lines new

-- a step gives something, or leaves fewer steps that give nothing
abbrev pub ComesNearer : Walk → Option BlockStep → Walk → Type 0
ComesNearer old None new = silent_steps new.stage < silent_steps old.stage
ComesNearer old (Some brief) new = Unit {0}

-- an item is read this way, or has a text of its own
abbrev pub ReadsAs : Glance → Reads → Type 0
ReadsAs (glance.Around tag) R = reads.Around (shown_plain tag) ≡ R
ReadsAs (glance.Alone short) R = reads.Alone (shown_short short) ≡ R
ReadsAs glance.Inside R = reads.Inside ≡ R
ReadsAs glance.Long R = Unit {0}

-- an item that is not read this way is not a short event
abbrev pub IsLongGlance : Glance → ItemBody → Type 0
IsLongGlance glance.Long body = is_long body ≡ true
IsLongGlance _ body = Unit {0}

abbrev pub GlancesZeroCopy : List ℕ → Item → Glance → Type 0
GlancesZeroCopy text item (glance.Alone short) = IsShortZeroCopy text short item.start item.end
GlancesZeroCopy text item _ = Unit {0}

-- these are the lines of the leaf at the focus
abbrev pub HoldsLines : Walk → List LeafLine → Type 0
HoldsLines walk lines = (z : Zip Item) (here : BlockDocument) (above : List Outer) → StandsAt walk z here above → AreLinesOf walk.text.now (leaf_at here) lines

-- the leaf at the focus has a text
abbrev pub HasText : Walk → Type 0
HasText walk = (z : Zip Item) (here : BlockDocument) (above : List Outer) → StandsAt walk z here above → (leaf_at here).stretches ≡ [] → ⊥

abbrev pub IsTaskAt : Walk → TreeIndex → Bool → Type 0
IsTaskAt walk ix is_checked = (e : Entry Item) → entry_at walk.tree ix.ix ≡ Some e → task_body e.item.body ≡ Some is_checked

-- the nodes after the first of these
abbrev pub after_first_of : BlockDocument → BlockDocument
after_first_of document.Nil = document.Nil
after_first_of (document.Node node inside after) = after

-- the item is a paragraph, a heading or a title among the current nodes, and an element
pub record IsLeafElement (walk : Walk) (item : Item) : Type 0 where
  pub z : Zip Item
  pub above : List Outer
  pub node : BlockNode
  pub stands : StandsBelow walk z above
  pub drawn : Drawn walk.text.now (texts_of walk) item node
  pub leaf : is_leaf node.kind ≡ true
  pub element : IsElement (read_as (kind_within (tight_below above) node.kind))

-- these nodes begin with a paragraph, a heading or a title that is an element and has this item
abbrev pub BeginsAs : Walk → List Outer → Item → BlockDocument → Type 0
BeginsAs walk above item document.Nil = ⊥
BeginsAs walk above item (document.Node node inside after) =
    Drawn walk.text.now (texts_of walk) item node × (is_leaf node.kind ≡ true) × IsElement (read_as (kind_within (tight_below above) node.kind))

-- after the focus comes a paragraph, a heading or a title, with this item; or none does, but perhaps a definition list
abbrev pub BeginsAfter : Walk → List Outer → Option Item → BlockDocument → Type 0
BeginsAfter walk above None after = (starts_before (settled (tight_below above) after) ≡ 0) ⊎ BeginsWithList after
BeginsAfter walk above (Some item) after = BeginsAs walk above item after

-- after the focus comes a definition list, with this item, or none does
abbrev pub ListAfter : Walk → Option Item → BlockDocument → Type 0
ListAfter walk None after = BeginsWithList after → ⊥
ListAfter walk (Some item) document.Nil = ⊥
ListAfter walk (Some item) (document.Node node inside after) = Drawn walk.text.now (texts_of walk) item node × (is_list node.kind ≡ true)

abbrev pub IsListAfter : Walk → TreeIndex → Option Item → Type 0
IsListAfter walk ix found = (z : Zip Item) (here : BlockDocument) (above : List Outer) → StandsAt walk z here above → ListAfter walk found (after_first_of here)

-- the nodes inside the focus begin with a title, with this item, or they do not
abbrev pub TitleIn : Walk → Option Item → BlockDocument → Type 0
TitleIn walk None inside = (tight : Bool) → begins_title (settled tight inside) ≡ false
TitleIn walk (Some item) document.Nil = ⊥
TitleIn walk (Some item) (document.Node node inside after) = Drawn walk.text.now (texts_of walk) item node × (is_title node.kind ≡ true)

-- the content of the focus begins with a title, if the focus is a definition list
abbrev pub IsTitleIn : Walk → TreeIndex → Option Item → Type 0
IsTitleIn walk ix found = (z : Zip Item) (here : BlockDocument) (above : List Outer) → StandsAt walk z here above → BeginsWithList here → TitleIn walk found (content_of here)

abbrev pub IsLeafAfter : Walk → TreeIndex → Option Item → Type 0
IsLeafAfter walk ix found = (z : Zip Item) (here : BlockDocument) (above : List Outer) → StandsAt walk z here above → BeginsAfter walk above found (after_first_of here)

-- this event with this range
abbrev pub GivesRanged : TextEvent → (start end : ℕ) → Ranged → Type 0
GivesRanged event start end given = shown_ranged given ≡ record { event = shown event; start = start; end = end }
