-- A document as the tree keeps it, and the part that is read. Link reference definitions are in a table of their own. Whether a paragraph
-- is directly in an item of a tight list is determined by the list around it.
use Rattle.std.specs.Prelude.{Bool, true, false, if◌then◌else◌}
use Rattle.cmark_grammar.specs.BlockDocument.{BlockKind, Paragraph, TightParagraph, Heading, ThematicBreak, IndentedCode, FencedCode, HtmlBlock, LinkDefinition, MetadataBlock, BlockQuote, BlockList, ListItem, TaskMarker, FootnoteDefinition, DefinitionList, DefinitionListTitle, DefinitionListDefinition, Text, OwnedText, Html, BlockNode, BlockDocument, Nil, Node, Table, TableHead, TableRow, TableCell}
use Rattle.cmark_block_model.specs.Tightness.{tight_within}

abbrev pub is_definition : BlockKind → Bool
is_definition (LinkDefinition reference) = true
is_definition Paragraph = false
is_definition TightParagraph = false
is_definition (Heading level attributes) = false
is_definition ThematicBreak = false
is_definition IndentedCode = false
is_definition (FencedCode info) = false
is_definition HtmlBlock = false
is_definition (MetadataBlock kind) = false
is_definition (Table alignments) = false
is_definition TableHead = false
is_definition TableRow = false
is_definition TableCell = false
is_definition (BlockQuote alert) = false
is_definition (FootnoteDefinition label) = false
is_definition (DefinitionList tight) = false
is_definition DefinitionListTitle = false
is_definition DefinitionListDefinition = false
is_definition (BlockList number tight) = false
is_definition ListItem = false
is_definition (TaskMarker is_checked) = false
is_definition (Text bytes) = false
is_definition (OwnedText bytes) = false
is_definition (Html bytes) = false

abbrev pub node_unless : Bool → BlockNode → (inside after : BlockDocument) → BlockDocument
node_unless true node inside after = after
node_unless false node inside after = Node node inside after

-- the document without its link reference definitions, which have no events (CommonMark 4.7)
abbrev pub without_definitions : BlockDocument → BlockDocument
without_definitions Nil = Nil
without_definitions (Node node inside after) =
    node_unless (is_definition node.kind) node (without_definitions inside) (without_definitions after)

-- the kind of a paragraph, by whether it is directly in an item or a definition of a tight list
abbrev pub kind_within : (tight : Bool) → BlockKind → BlockKind
kind_within tight Paragraph = if tight then TightParagraph else Paragraph
kind_within tight TightParagraph = TightParagraph
kind_within tight (Heading level attributes) = Heading level attributes
kind_within tight ThematicBreak = ThematicBreak
kind_within tight IndentedCode = IndentedCode
kind_within tight (FencedCode info) = FencedCode info
kind_within tight HtmlBlock = HtmlBlock
kind_within tight (LinkDefinition reference) = LinkDefinition reference
kind_within tight (MetadataBlock kind) = MetadataBlock kind
kind_within tight (Table alignments) = Table alignments
kind_within tight TableHead = TableHead
kind_within tight TableRow = TableRow
kind_within tight TableCell = TableCell
kind_within tight (BlockQuote alert) = BlockQuote alert
kind_within tight (FootnoteDefinition label) = FootnoteDefinition label
kind_within tight (DefinitionList t) = DefinitionList t
kind_within tight DefinitionListTitle = DefinitionListTitle
kind_within tight DefinitionListDefinition = DefinitionListDefinition
kind_within tight (BlockList number t) = BlockList number t
kind_within tight ListItem = ListItem
kind_within tight (TaskMarker is_checked) = TaskMarker is_checked
kind_within tight (Text bytes) = Text bytes
kind_within tight (OwnedText bytes) = OwnedText bytes
kind_within tight (Html bytes) = Html bytes

-- the paragraphs directly in items or definitions of tight lists are not elements (CommonMark 5.3)
abbrev pub settled : (tight : Bool) → BlockDocument → BlockDocument
settled tight Nil = Nil
settled tight (Node node inside after) =
    Node (record node { kind = kind_within tight node.kind }) (settled (tight_within tight node.kind) inside) (settled tight after)
