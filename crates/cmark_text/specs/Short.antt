-- The events that own nothing as events of the grammar, and their zero-copy law.
use Rattle.std.specs.Prelude.{◌≡◌, ℕ, List, option_map}
use Rattle.cmark_grammar.specs.Attributes.{no_attributes}
use Rattle.cmark_grammar.specs.CodeBlockKind as code_kind
use Rattle.cmark_grammar.specs.Event as event
use Rattle.cmark_grammar.specs.Tag as tag
use Rattle.cmark_grammar.specs.Tokens.{slice}
use Rattle.cmark_text.specs.declared.event.Tag.{Tag}
use Rattle.cmark_text.specs.declared.event.Tag.TheVariants as declared_tag
use Rattle.cmark_text.specs.declared.short.PlainTag.{PlainTag}
use Rattle.cmark_text.specs.declared.short.PlainTag.TheVariants as plain
use Rattle.cmark_text.specs.declared.short.Short.{Short}
use Rattle.cmark_text.specs.declared.short.Short.TheVariants as short
use Rattle.cmark_text.specs.Excerpt.{excerpt_bytes}
use Rattle.cmark_text.specs.Shown.{shown_end}
use Rattle.cmark_values.specs.Shown.{level_number, shown_block_quote_kind, shown_metadata_block_kind}
use Rattle.cmark_values.specs.Lending.{IsPartOf}

abbrev pub shown_plain : PlainTag → tag.Tag
shown_plain plain.Paragraph = tag.Paragraph
shown_plain (plain.Heading level) = tag.Heading (level_number level) no_attributes
shown_plain (plain.BlockQuote kind) = tag.BlockQuote (option_map shown_block_quote_kind kind)
shown_plain plain.IndentedCode = tag.CodeBlock code_kind.Indented
shown_plain plain.HtmlBlock = tag.HtmlBlock
shown_plain (plain.List first) = tag.Listing first
shown_plain plain.Item = tag.ListItem
shown_plain plain.DefinitionList = tag.DefinitionList
shown_plain plain.DefinitionListTitle = tag.DefinitionListTitle
shown_plain plain.DefinitionListDefinition = tag.DefinitionListDefinition
shown_plain plain.TableHead = tag.TableHead
shown_plain plain.TableRow = tag.TableRow
shown_plain plain.TableCell = tag.TableCell
shown_plain plain.Emphasis = tag.Emphasis
shown_plain plain.Strong = tag.Strong
shown_plain plain.Strikethrough = tag.Strikethrough
shown_plain plain.Superscript = tag.Superscript
shown_plain plain.Subscript = tag.Subscript
shown_plain plain.Highlight = tag.Highlight
shown_plain (plain.MetadataBlock kind) = tag.MetadataBlock (shown_metadata_block_kind kind)

-- the element may have a text or a list of its own
abbrev pub MayOwn : Tag → Type 0
MayOwn (declared_tag.Heading level id classes attrs) = Unit {0}
MayOwn (declared_tag.CodeBlock kind) = Unit {0}
MayOwn (declared_tag.FootnoteDefinition label) = Unit {0}
MayOwn (declared_tag.Table alignments) = Unit {0}
MayOwn (declared_tag.Link link_type dest_url title id) = Unit {0}
MayOwn (declared_tag.Image link_type dest_url title id) = Unit {0}
MayOwn _ = ⊥

abbrev pub shown_short : Short → event.Event
shown_short (short.Start tag) = event.Start (shown_plain tag)
shown_short (short.End tag) = event.End (shown_end tag)
shown_short (short.Text text) = event.Text (excerpt_bytes text)
shown_short (short.Code text) = event.Code text.now
shown_short (short.Html text) = event.Html text.now
shown_short (short.InlineHtml text) = event.InlineHtml text.now
shown_short short.SoftBreak = event.SoftBreak
shown_short short.HardBreak = event.HardBreak
shown_short short.Rule = event.Rule

-- an event that owns nothing, with this range
abbrev pub ranged_short : Short → (start end : ℕ) → event.Ranged
ranged_short short start end = record { event = shown_short short; start = start; end = end }

-- the zero-copy law of an event that owns nothing and has this range: all its texts are borrowed
abbrev pub IsShortZeroCopy : (source : List ℕ) → Short → (start end : ℕ) → Type 0
IsShortZeroCopy source (short.Text text) start end = excerpt_bytes text ≡ slice source start end
IsShortZeroCopy source (short.Html text) start end = text.now ≡ slice source start end
IsShortZeroCopy source (short.InlineHtml text) start end = text.now ≡ slice source start end
IsShortZeroCopy source (short.Code text) start end = IsPartOf source text.now
IsShortZeroCopy source _ start end = Unit {0}
