-- The part of a tag that the end of the element repeats. Example: the level of a heading, but not its attributes.
use Rattle.std.specs.Prelude.{ℕ, Bool, Option, is_some}
use Rattle.cmark_grammar.specs.BlockQuoteKind.{BlockQuoteKind}
use Rattle.cmark_grammar.specs.MetadataBlockKind.{MetadataBlockKind}
use Rattle.cmark_grammar.specs.Tag as tag
use Rattle.cmark_grammar.specs.Tag.{Tag}

pub data TagEnd : Type 0 where
  Paragraph : TagEnd
  Heading : (level : ℕ) → TagEnd
  BlockQuote : (kind : Option BlockQuoteKind) → TagEnd
  CodeBlock : TagEnd
  HtmlBlock : TagEnd
  Listing : (is_ordered : Bool) → TagEnd
  ListItem : TagEnd
  FootnoteDefinition : TagEnd
  DefinitionList : TagEnd
  DefinitionListTitle : TagEnd
  DefinitionListDefinition : TagEnd
  Table : TagEnd
  TableHead : TagEnd
  TableRow : TagEnd
  TableCell : TagEnd
  Emphasis : TagEnd
  Strong : TagEnd
  Strikethrough : TagEnd
  Superscript : TagEnd
  Subscript : TagEnd
  Highlight : TagEnd
  Link : TagEnd
  Image : TagEnd
  MetadataBlock : (kind : MetadataBlockKind) → TagEnd

abbrev pub end_of : Tag → TagEnd
end_of tag.Paragraph = Paragraph
end_of (tag.Heading level attributes) = Heading level
end_of (tag.BlockQuote kind) = BlockQuote kind
end_of (tag.CodeBlock kind) = CodeBlock
end_of tag.HtmlBlock = HtmlBlock
end_of (tag.Listing first) = Listing (is_some first)
end_of tag.ListItem = ListItem
end_of (tag.FootnoteDefinition label) = FootnoteDefinition
end_of tag.DefinitionList = DefinitionList
end_of tag.DefinitionListTitle = DefinitionListTitle
end_of tag.DefinitionListDefinition = DefinitionListDefinition
end_of (tag.Table alignments) = Table
end_of tag.TableHead = TableHead
end_of tag.TableRow = TableRow
end_of tag.TableCell = TableCell
end_of tag.Emphasis = Emphasis
end_of tag.Strong = Strong
end_of tag.Strikethrough = Strikethrough
end_of tag.Superscript = Superscript
end_of tag.Subscript = Subscript
end_of tag.Highlight = Highlight
end_of (tag.Link linked) = Link
end_of (tag.Image linked) = Image
end_of (tag.MetadataBlock kind) = MetadataBlock kind
