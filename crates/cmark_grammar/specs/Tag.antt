-- The tags of the elements that have a start and an end: blocks (CommonMark 4 and 5), spans (CommonMark 6), and those of the extensions.
use Rattle.std.specs.Prelude.{ℕ, List, Option}
use Rattle.cmark_grammar.specs.Alignment.{Alignment}
use Rattle.cmark_grammar.specs.Attributes.{Attributes}
use Rattle.cmark_grammar.specs.BlockQuoteKind.{BlockQuoteKind}
use Rattle.cmark_grammar.specs.CodeBlockKind.{CodeBlockKind}
use Rattle.cmark_grammar.specs.LinkType.{LinkType}
use Rattle.cmark_grammar.specs.MetadataBlockKind.{MetadataBlockKind}

-- the destination of a link or an image, its title, and its label
pub record Linked : Type 0 where
  pub link_type : LinkType
  pub destination : List ℕ
  pub title : List ℕ
  pub id : List ℕ

-- the tags of elements. A heading has its level, 1 to 6; a block quote has its kind, if it is an alert. An ordered list has its first
-- number, a table the alignments of its columns
pub data Tag : Type 0 where
  Paragraph : Tag
  Heading : (level : ℕ) → (attributes : Attributes) → Tag
  BlockQuote : (kind : Option BlockQuoteKind) → Tag
  CodeBlock : (kind : CodeBlockKind) → Tag
  HtmlBlock : Tag
  Listing : (first : Option ℕ) → Tag
  ListItem : Tag
  FootnoteDefinition : (label : List ℕ) → Tag
  DefinitionList : Tag
  DefinitionListTitle : Tag
  DefinitionListDefinition : Tag
  Table : (alignments : List Alignment) → Tag
  TableHead : Tag
  TableRow : Tag
  TableCell : Tag
  Emphasis : Tag
  Strong : Tag
  Strikethrough : Tag
  Superscript : Tag
  Subscript : Tag
  Highlight : Tag
  Link : (linked : Linked) → Tag
  Image : (linked : Linked) → Tag
  MetadataBlock : (kind : MetadataBlockKind) → Tag
