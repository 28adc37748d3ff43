-- The events of a document of blocks (CommonMark 3 to 5), in preorder: each with the range of its node.
use Rattle.std.specs.Prelude.{ℕ, zero, suc, Bool, true, false, if◌then◌else◌, List, [], ◌∷◌, ◌++◌, Option, Some, None}
use Rattle.cmark_grammar.specs.Tag as tag
use Rattle.cmark_grammar.specs.Tag.{Tag}
use Rattle.cmark_grammar.specs.CodeBlockKind.{Indented, Fenced}
use Rattle.cmark_grammar.specs.TagEnd.{end_of}
use Rattle.cmark_grammar.specs.Event as event
use Rattle.cmark_grammar.specs.Event.{Event, Start, End, Rule, TaskListMarker, Ranged}
use Rattle.cmark_grammar.specs.BlockDocument.{BlockKind, Paragraph, TightParagraph, Heading, ThematicBreak, IndentedCode, FencedCode, HtmlBlock, LinkDefinition, MetadataBlock, BlockQuote, BlockList, ListItem, TaskMarker, FootnoteDefinition, DefinitionList, DefinitionListTitle, DefinitionListDefinition, Text, OwnedText, Html, BlockNode, BlockDocument, Nil, Node, Table, TableHead, TableRow, TableCell}

-- the reading of a node: an element around the events inside it; only these events; one event; an event that comes first in the element
-- that follows; or no event
pub data Reads : Type 0 where
  Around : Tag → Reads
  Inside : Reads
  Alone : Event → Reads
  First : Event → Reads
  Silent : Reads

-- a paragraph of a tight list is read as the events inside it (CommonMark 5.3). A link reference definition has no event (CommonMark 4.7).
-- A task marker is the first event of its paragraph, heading or title (GFM 5.3)
abbrev pub read_as : BlockKind → Reads
read_as Paragraph = Around tag.Paragraph
read_as TightParagraph = Inside
read_as (Heading level attributes) = Around (tag.Heading level attributes)
read_as ThematicBreak = Alone Rule
read_as IndentedCode = Around (tag.CodeBlock Indented)
read_as (FencedCode info) = Around (tag.CodeBlock (Fenced info))
read_as HtmlBlock = Around tag.HtmlBlock
read_as (LinkDefinition reference) = Silent
read_as (MetadataBlock kind) = Around (tag.MetadataBlock kind)
read_as (Table alignments) = Around (tag.Table alignments)
read_as TableHead = Around tag.TableHead
read_as TableRow = Around tag.TableRow
read_as TableCell = Around tag.TableCell
read_as (BlockQuote alert) = Around (tag.BlockQuote alert)
read_as (FootnoteDefinition label) = Around (tag.FootnoteDefinition label)
read_as (DefinitionList tight) = Around tag.DefinitionList
read_as DefinitionListTitle = Around tag.DefinitionListTitle
read_as DefinitionListDefinition = Around tag.DefinitionListDefinition
read_as (BlockList number tight) = Around (tag.Listing number)
read_as ListItem = Around tag.ListItem
read_as (TaskMarker is_checked) = First (TaskListMarker is_checked)
read_as (Text bytes) = Alone (event.Text bytes)
read_as (OwnedText bytes) = Alone (event.Text bytes)
read_as (Html bytes) = Alone (event.Html bytes)

-- an event with the range of a node
abbrev pub over : BlockNode → Event → Ranged
over node event = record { event = event; start = node.start; end = node.end }

-- the events of a node, by its reading, around the events inside it
abbrev pub node_events : Reads → BlockNode → List Ranged → List Ranged
node_events (Around tag) node inside = over node (Start tag) ∷ (inside ++ (over node (End (end_of tag)) ∷ []))
node_events Inside node inside = inside
node_events (Alone event) node inside = over node event ∷ []
node_events _ node inside = []

abbrev pub first_event : Reads → Option Event
first_event (First event) = Some event
first_event _ = None

-- the leaves with inlines: paragraphs, headings, titles of definitions and table cells. All other text, for example that of code and HTML
-- blocks, is read without inlines
abbrev pub is_leaf : BlockKind → Bool
is_leaf Paragraph = true
is_leaf TightParagraph = true
is_leaf (Heading level attributes) = true
is_leaf TableCell = true
is_leaf DefinitionListTitle = true
is_leaf _ = false

abbrev pub is_title : BlockKind → Bool
is_title DefinitionListTitle = true
is_title _ = false

-- the next node that has events is a title
abbrev pub title_as : (is_title : Bool) → Reads → (other : Bool) → Bool
title_as is_title (Around tag) other = is_title
title_as is_title Silent other = other
title_as is_title _ other = false

abbrev pub begins_title : BlockDocument → Bool
begins_title Nil = false
begins_title (Node node inside after) = title_as (is_title node.kind) (read_as node.kind) (begins_title after)

-- the number of starts before the text of a node of this kind: one in a paragraph, heading or title. It is two in a definition list that
-- begins with a title, and zero otherwise
abbrev pub starts_of : BlockKind → (titled : Bool) → ℕ
starts_of (DefinitionList tight) titled = if titled then 2 else 1
starts_of kind titled = if is_leaf kind then 1 else 0

-- the number of starts before the text of the next node that has events
abbrev pub starts_as : (starts : ℕ) → Reads → (other : ℕ) → ℕ
starts_as starts (Around tag) other = starts
starts_as starts Silent other = other
starts_as starts _ other = 0

abbrev pub starts_before : BlockDocument → ℕ
starts_before Nil = 0
starts_before (Node node inside after) = starts_as (starts_of node.kind (begins_title inside)) (read_as node.kind) (starts_before after)

-- an event becomes the first one in the paragraph, heading or title that follows it: it is put after `starts` events. In a tight list
-- `starts` is zero, and the event comes before the others
abbrev pub first_in : (starts : ℕ) → Ranged → List Ranged → List Ranged
first_in zero event others = event ∷ others
first_in (suc starts) event [] = event ∷ []
first_in (suc starts) event (r ∷ others) = r ∷ first_in starts event others

abbrev pub with_first : Option Event → (starts : ℕ) → BlockNode → List Ranged → List Ranged
with_first None starts node others = others
with_first (Some event) starts node others = first_in starts (over node event) others

-- the events of a document of blocks, in preorder
abbrev pub block_reading : BlockDocument → List Ranged
block_reading Nil = []
block_reading (Node node inside after) =
    with_first (first_event (read_as node.kind)) (starts_before after) node (node_events (read_as node.kind) node (block_reading inside) ++ block_reading after)
