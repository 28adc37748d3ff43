-- Documents of blocks with the lines of their leaves: ordered trees (CommonMark 3). Example: of `# a` the node is a heading with one text
-- in it.
use Rattle.std.specs.Prelude.{ℕ, Bool, List, [], ◌∷◌, ◌++◌, Option}
use Rattle.cmark_grammar.specs.Alignment.{Alignment}
use Rattle.cmark_grammar.specs.Attributes.{Attributes}
use Rattle.cmark_grammar.specs.BlockQuoteKind.{BlockQuoteKind}
use Rattle.cmark_grammar.specs.MetadataBlockKind.{MetadataBlockKind}

-- a link reference definition: its label's normal form, its destination and title, and the places at which its text begins and ends
pub record Reference : Type 0 where
  pub label : List ℕ
  pub destination : List ℕ
  pub title : Option (List ℕ)
  pub start : ℕ
  pub end : ℕ

-- The kinds of nodes. A paragraph directly in an item of a tight list is not an element.
--
-- A heading has its attributes; a block quote has its kind, if it is an alert. An ordered list has the number of its first item, a table
-- the alignments of its columns. A footnote definition has its label's normal form; a definition list, whether it is tight.
--
-- A text and an HTML line are bytes of the text; an owned text is the spaces that are left of a tab. The texts of a paragraph or heading
-- are raw, with their line endings: the inline pass reads them. A task marker comes before the paragraph or heading that it belongs to (GFM
-- 5.3)
pub data BlockKind : Type 0 where
  Paragraph : BlockKind
  TightParagraph : BlockKind
  Heading : (level : ℕ) → (attributes : Attributes) → BlockKind
  ThematicBreak : BlockKind
  IndentedCode : BlockKind
  FencedCode : (info : List ℕ) → BlockKind
  HtmlBlock : BlockKind
  LinkDefinition : (reference : Reference) → BlockKind
  MetadataBlock : (kind : MetadataBlockKind) → BlockKind
  Table : (alignments : List Alignment) → BlockKind
  TableHead : BlockKind
  TableRow : BlockKind
  TableCell : BlockKind
  BlockQuote : (alert : Option BlockQuoteKind) → BlockKind
  BlockList : (number : Option ℕ) → (tight : Bool) → BlockKind
  ListItem : BlockKind
  TaskMarker : (is_checked : Bool) → BlockKind
  FootnoteDefinition : (label : List ℕ) → BlockKind
  DefinitionList : (tight : Bool) → BlockKind
  DefinitionListTitle : BlockKind
  DefinitionListDefinition : BlockKind
  Text : (bytes : List ℕ) → BlockKind
  OwnedText : (bytes : List ℕ) → BlockKind
  Html : (bytes : List ℕ) → BlockKind

-- a node: its kind, and its range in the text, from the start up to the end
pub record BlockNode : Type 0 where
  pub kind : BlockKind
  pub start : ℕ
  pub end : ℕ

-- no node, or a node with the nodes inside it and those after it
pub data BlockDocument : Type 0 where
  Nil : BlockDocument
  Node : (node : BlockNode) → (inside after : BlockDocument) → BlockDocument

abbrev pub join : BlockDocument → BlockDocument → BlockDocument
join Nil other = other
join (Node node inside after) other = Node node inside (join after other)

abbrev pub node : BlockKind → ℕ → ℕ → BlockNode
node kind start end = record { kind = kind; start = start; end = end }

-- the nodes in preorder
abbrev pub outline : BlockDocument → List BlockNode
outline Nil = []
outline (Node node inside after) = node ∷ (outline inside ++ outline after)
