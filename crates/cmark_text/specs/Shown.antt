-- The values of this crate as values of the grammar: a text by its bytes, a heading level by its number.
use Rattle.std.specs.Prelude.{map, option_map}
use Rattle.cmark_grammar.specs.Event as event
use Rattle.cmark_grammar.specs.Tag as tag
use Rattle.cmark_grammar.specs.TagEnd as end
use Rattle.cmark_text.specs.declared.event.Tag.{Tag}
use Rattle.cmark_text.specs.declared.event.Tag.TheVariants as declared_tag
use Rattle.cmark_text.specs.declared.event.TagEnd.{TagEnd}
use Rattle.cmark_text.specs.declared.event.TagEnd.TheVariants as declared_end
use Rattle.cmark_text.specs.declared.event.Event.{Event}
use Rattle.cmark_text.specs.declared.event.Event.TheVariants as declared_event
use Rattle.cmark_values.specs.Shown.{text_bytes, level_number, shown_alignment, shown_block_quote_kind, shown_metadata_block_kind, shown_code_block_kind, shown_attributes, shown_linked}

abbrev pub shown_tag : Tag → tag.Tag
shown_tag declared_tag.Paragraph = tag.Paragraph
shown_tag (declared_tag.Heading level id classes attrs) = tag.Heading (level_number level) (shown_attributes id classes.items attrs.items)
shown_tag (declared_tag.BlockQuote kind) = tag.BlockQuote (option_map shown_block_quote_kind kind)
shown_tag (declared_tag.CodeBlock kind) = tag.CodeBlock (shown_code_block_kind kind)
shown_tag declared_tag.HtmlBlock = tag.HtmlBlock
shown_tag (declared_tag.List first) = tag.Listing first
shown_tag declared_tag.Item = tag.ListItem
shown_tag (declared_tag.FootnoteDefinition label) = tag.FootnoteDefinition (text_bytes label)
shown_tag declared_tag.DefinitionList = tag.DefinitionList
shown_tag declared_tag.DefinitionListTitle = tag.DefinitionListTitle
shown_tag declared_tag.DefinitionListDefinition = tag.DefinitionListDefinition
shown_tag (declared_tag.Table alignments) = tag.Table (map shown_alignment alignments.items)
shown_tag declared_tag.TableHead = tag.TableHead
shown_tag declared_tag.TableRow = tag.TableRow
shown_tag declared_tag.TableCell = tag.TableCell
shown_tag declared_tag.Emphasis = tag.Emphasis
shown_tag declared_tag.Strong = tag.Strong
shown_tag declared_tag.Strikethrough = tag.Strikethrough
shown_tag declared_tag.Superscript = tag.Superscript
shown_tag declared_tag.Subscript = tag.Subscript
shown_tag declared_tag.Highlight = tag.Highlight
shown_tag (declared_tag.Link link_type dest_url title id) = tag.Link (shown_linked link_type dest_url title id)
shown_tag (declared_tag.Image link_type dest_url title id) = tag.Image (shown_linked link_type dest_url title id)
shown_tag (declared_tag.MetadataBlock kind) = tag.MetadataBlock (shown_metadata_block_kind kind)

abbrev pub shown_end : TagEnd → end.TagEnd
shown_end declared_end.Paragraph = end.Paragraph
shown_end (declared_end.Heading level) = end.Heading (level_number level)
shown_end (declared_end.BlockQuote kind) = end.BlockQuote (option_map shown_block_quote_kind kind)
shown_end declared_end.CodeBlock = end.CodeBlock
shown_end declared_end.HtmlBlock = end.HtmlBlock
shown_end (declared_end.List is_ordered) = end.Listing is_ordered
shown_end declared_end.Item = end.ListItem
shown_end declared_end.FootnoteDefinition = end.FootnoteDefinition
shown_end declared_end.DefinitionList = end.DefinitionList
shown_end declared_end.DefinitionListTitle = end.DefinitionListTitle
shown_end declared_end.DefinitionListDefinition = end.DefinitionListDefinition
shown_end declared_end.Table = end.Table
shown_end declared_end.TableHead = end.TableHead
shown_end declared_end.TableRow = end.TableRow
shown_end declared_end.TableCell = end.TableCell
shown_end declared_end.Emphasis = end.Emphasis
shown_end declared_end.Strong = end.Strong
shown_end declared_end.Strikethrough = end.Strikethrough
shown_end declared_end.Superscript = end.Superscript
shown_end declared_end.Subscript = end.Subscript
shown_end declared_end.Highlight = end.Highlight
shown_end declared_end.Link = end.Link
shown_end declared_end.Image = end.Image
shown_end (declared_end.MetadataBlock kind) = end.MetadataBlock (shown_metadata_block_kind kind)

abbrev pub shown : Event → event.Event
shown (declared_event.Start tag) = event.Start (shown_tag tag)
shown (declared_event.End end) = event.End (shown_end end)
shown (declared_event.Text text) = event.Text (text_bytes text)
shown (declared_event.Code text) = event.Code (text_bytes text)
shown (declared_event.InlineMath text) = event.InlineMath (text_bytes text)
shown (declared_event.DisplayMath text) = event.DisplayMath (text_bytes text)
shown (declared_event.Html text) = event.Html (text_bytes text)
shown (declared_event.InlineHtml text) = event.InlineHtml (text_bytes text)
shown (declared_event.FootnoteReference label) = event.FootnoteReference (text_bytes label)
shown declared_event.SoftBreak = event.SoftBreak
shown declared_event.HardBreak = event.HardBreak
shown declared_event.Rule = event.Rule
shown (declared_event.TaskListMarker is_checked) = event.TaskListMarker is_checked
