-- Paragraphs of tight lists (CommonMark 5.3) and tight definition lists (this profile's own).
use Rattle.std.specs.Prelude.{◌≡◌, Bool, true, false}
use Rattle.cmark_grammar.specs.BlockDocument.{BlockKind, Paragraph, TightParagraph, Heading, ThematicBreak, IndentedCode, FencedCode, HtmlBlock, LinkDefinition, MetadataBlock, BlockQuote, BlockList, ListItem, TaskMarker, FootnoteDefinition, DefinitionList, DefinitionListTitle, DefinitionListDefinition, Text, OwnedText, Html, BlockDocument, Nil, Node, Table, TableHead, TableRow, TableCell}

-- whether the content of a node of this kind is in the items or definitions of a tight list, or directly in an item or definition of one
abbrev pub tight_within : Bool → BlockKind → Bool
tight_within tight (BlockList number t) = t
tight_within tight ListItem = tight
tight_within tight (TaskMarker is_checked) = false
tight_within tight Paragraph = false
tight_within tight TightParagraph = false
tight_within tight (Heading level attributes) = false
tight_within tight ThematicBreak = false
tight_within tight IndentedCode = false
tight_within tight (FencedCode info) = false
tight_within tight HtmlBlock = false
tight_within tight (LinkDefinition reference) = false
tight_within tight (MetadataBlock kind) = false
tight_within tight (Table alignments) = false
tight_within tight TableHead = false
tight_within tight TableRow = false
tight_within tight TableCell = false
tight_within tight (BlockQuote alert) = false
tight_within tight (FootnoteDefinition label) = false
tight_within tight (DefinitionList t) = t
tight_within tight DefinitionListTitle = false
tight_within tight DefinitionListDefinition = tight
tight_within tight (Text bytes) = false
tight_within tight (OwnedText bytes) = false
tight_within tight (Html bytes) = false

-- a paragraph is an element unless it is directly in an item or a definition of a tight list
abbrev pub IsElement : (tight : Bool) → BlockKind → Type 0
IsElement tight Paragraph = tight ≡ false
IsElement tight TightParagraph = tight ≡ true
IsElement tight (Heading level attributes) = Unit {0}
IsElement tight ThematicBreak = Unit {0}
IsElement tight IndentedCode = Unit {0}
IsElement tight (FencedCode info) = Unit {0}
IsElement tight HtmlBlock = Unit {0}
IsElement tight (LinkDefinition reference) = Unit {0}
IsElement tight (MetadataBlock kind) = Unit {0}
IsElement tight (Table alignments) = Unit {0}
IsElement tight TableHead = Unit {0}
IsElement tight TableRow = Unit {0}
IsElement tight TableCell = Unit {0}
IsElement tight (BlockQuote alert) = Unit {0}
IsElement tight (FootnoteDefinition label) = Unit {0}
IsElement tight (DefinitionList t) = Unit {0}
IsElement tight DefinitionListTitle = Unit {0}
IsElement tight DefinitionListDefinition = Unit {0}
IsElement tight (BlockList number t) = Unit {0}
IsElement tight ListItem = Unit {0}
IsElement tight (TaskMarker is_checked) = Unit {0}
IsElement tight (Text bytes) = Unit {0}
IsElement tight (OwnedText bytes) = Unit {0}
IsElement tight (Html bytes) = Unit {0}

abbrev pub HasTightParagraphs : (tight : Bool) → BlockDocument → Type 0
HasTightParagraphs tight Nil = Unit {0}
HasTightParagraphs tight (Node node inside after) =
    IsElement tight node.kind × HasTightParagraphs (tight_within tight node.kind) inside × HasTightParagraphs tight after
