-- The ranges of a document's nodes.
use Rattle.std.specs.Prelude.{◌≡◌, ℕ, suc, ◌+◌, ◌≤◌, List}
use Rattle.cmark_grammar.specs.Tokens.{slice}
use Rattle.cmark_grammar.specs.BlockDocument.{BlockKind, Paragraph, TightParagraph, Heading, ThematicBreak, IndentedCode, FencedCode, HtmlBlock, LinkDefinition, MetadataBlock, BlockQuote, BlockList, ListItem, TaskMarker, FootnoteDefinition, DefinitionList, DefinitionListTitle, DefinitionListDefinition, Text, OwnedText, Html, BlockDocument, Nil, Node, Table, TableHead, TableRow, TableCell}

-- between these two places the nodes are in order: each begins after the one before it has ended, and contains the nodes inside it
abbrev pub InOrder : ℕ → BlockDocument → ℕ → Type 0
InOrder from Nil to = from ≤ to
InOrder from (Node node inside after) to = (from ≤ node.start) × InOrder node.start inside node.end × InOrder node.end after to

-- both ends of each range have this property
abbrev pub AllAt : (Place : ℕ → Type 0) → BlockDocument → Type 0
AllAt Place Nil = Unit {0}
AllAt Place (Node node inside after) = Place node.start × Place node.end × AllAt Place inside × AllAt Place after

abbrev pub count_nodes : BlockDocument → ℕ
count_nodes Nil = 0
count_nodes (Node node inside after) = suc (count_nodes inside + count_nodes after)

abbrev pub count_table : BlockKind → ℕ
count_table (Table alignments) = 1
count_table _ = 0

abbrev pub count_tables : BlockDocument → ℕ
count_tables Nil = 0
count_tables (Node node inside after) = count_table node.kind + (count_tables inside + count_tables after)

-- a text and an HTML line are the bytes of their range
abbrev pub IsSlice : List ℕ → BlockKind → (start end : ℕ) → Type 0
IsSlice text (Text bytes) start end = bytes ≡ slice text start end
IsSlice text (Html bytes) start end = bytes ≡ slice text start end
IsSlice text Paragraph start end = Unit {0}
IsSlice text TightParagraph start end = Unit {0}
IsSlice text (Heading level attributes) start end = Unit {0}
IsSlice text ThematicBreak start end = Unit {0}
IsSlice text IndentedCode start end = Unit {0}
IsSlice text (FencedCode info) start end = Unit {0}
IsSlice text HtmlBlock start end = Unit {0}
IsSlice text (LinkDefinition reference) start end = Unit {0}
IsSlice text (MetadataBlock kind) start end = Unit {0}
IsSlice text (Table alignments) start end = Unit {0}
IsSlice text TableHead start end = Unit {0}
IsSlice text TableRow start end = Unit {0}
IsSlice text TableCell start end = Unit {0}
IsSlice text (BlockQuote alert) start end = Unit {0}
IsSlice text (FootnoteDefinition label) start end = Unit {0}
IsSlice text (DefinitionList tight) start end = Unit {0}
IsSlice text DefinitionListTitle start end = Unit {0}
IsSlice text DefinitionListDefinition start end = Unit {0}
IsSlice text (BlockList number tight) start end = Unit {0}
IsSlice text ListItem start end = Unit {0}
IsSlice text (TaskMarker is_checked) start end = Unit {0}
IsSlice text (OwnedText bytes) start end = Unit {0}

abbrev pub HasSlices : List ℕ → BlockDocument → Type 0
HasSlices text Nil = Unit {0}
HasSlices text (Node node inside after) = IsSlice text node.kind node.start node.end × HasSlices text inside × HasSlices text after
