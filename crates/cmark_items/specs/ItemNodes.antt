-- The items of a document's blocks as nodes of the grammar's documents.
use Rattle.std.specs.Char.{encode_utf8}
use Rattle.std.specs.Prelude.{ℕ, ◌%◌, Bool, ◌==◌, if◌then◌else◌, List, [], Option, Some, None, option_map, slice_get}
use Rattle.cmark_values.specs.Shown.{text_bytes, level_number, shown_block_quote_kind, shown_metadata_block_kind}
use Rattle.cmark_tree.specs.Forest as forest
use Rattle.cmark_tree.specs.Forest.{Forest}
use Rattle.cmark_grammar.specs.Alignment.{Alignment}
use Rattle.cmark_grammar.specs.Tables.{delimiter_row}
use Rattle.cmark_grammar.specs.Attributes.{no_attributes, attributes_of}
use Rattle.cmark_grammar.specs.Containers.{is_delimiter}
use Rattle.cmark_grammar.specs.Tokens.{slice}
use Rattle.cmark_grammar.specs.BlockDocument as document
use Rattle.cmark_grammar.specs.BlockDocument.{BlockKind, BlockNode, BlockDocument, node}
use Rattle.cmark_items.specs.declared.item.Item.{Item}
use Rattle.cmark_items.specs.declared.item.ItemBody.{ItemBody}
use Rattle.cmark_items.specs.declared.item.ItemBody.TheVariants as body
use Rattle.cmark_items.specs.declared.list_flags.ListFlags.{ListFlags}
use Rattle.cmark_values.specs.declared.text.CowStr.{CowStr}

-- the text at an index
abbrev pub text_at : List CowStr → ℕ → Option (List ℕ)
text_at texts i = option_map text_bytes (slice_get texts i)

-- the flag of the lowest bit is set
abbrev pub is_tight : ListFlags → Bool
is_tight flags = (flags.0 % 2) == 1

-- a list's number, if its character is a delimiter
abbrev pub list_number : (delimiter number : ℕ) → Option ℕ
list_number delimiter number = if is_delimiter delimiter then Some number else None

-- the form of an item as a node: an element; a text at an index; a slice of the text; or a paragraph or a title with one text inside. That
-- text begins at the item's start and ends at a place. Other items are not nodes of a document
pub data Shape : Type 0 where
  Element : (kind : BlockKind) → Shape
  Spelt : (kind : List ℕ → BlockKind) → (index : ℕ) → Shape
  TextSlice : Shape
  HtmlSlice : Shape
  ParagraphOf : (text_end : ℕ) → Shape
  TitleOf : (text_end : ℕ) → Shape
  NoNode : Shape

-- the alignments of a delimiter row's columns
abbrev pub columns_of : Option (List Alignment) → List Alignment
columns_of None = []
columns_of (Some alignments) = alignments

abbrev pub shape : ItemBody → Shape
shape body.Paragraph = Element document.Paragraph
shape (body.ParagraphOf text_end) = ParagraphOf text_end
shape body.TightParagraph = Element document.TightParagraph
shape (body.Heading level) = Element (document.Heading (level_number level) no_attributes)
shape (body.AttributedHeading level index) = Spelt (λ words. document.Heading (level_number level) (attributes_of words)) index.0
shape body.Rule = Element document.ThematicBreak
shape body.IndentCodeBlock = Element document.IndentedCode
shape (body.FencedCodeBlock index) = Spelt document.FencedCode index.0
shape body.HtmlBlock = Element document.HtmlBlock
shape (body.MetadataBlock kind) = Element (document.MetadataBlock (shown_metadata_block_kind kind))
shape (body.Table index) = Spelt (λ row. document.Table (columns_of (delimiter_row row))) index.0
shape body.TableHead = Element document.TableHead
shape body.TableRow = Element document.TableRow
shape body.TableCell = Element document.TableCell
shape (body.BlockQuote kind) = Element (document.BlockQuote (option_map shown_block_quote_kind kind))
shape (body.List flags delimiter number) = Element (document.BlockList (list_number delimiter number) (is_tight flags))
shape (body.ListItem width) = Element document.ListItem
shape (body.TaskListMarker is_checked) = Element (document.TaskMarker is_checked)
shape (body.DefinitionList flags) = Element (document.DefinitionList (is_tight flags))
shape body.DefinitionListTitle = Element document.DefinitionListTitle
shape (body.DefinitionListTitleOf text_end) = TitleOf text_end
shape (body.DefinitionListDefinition width) = Element document.DefinitionListDefinition
shape (body.FootnoteDefinition index) = Spelt document.FootnoteDefinition index.0
shape (body.Text backslash_escaped) = TextSlice
shape (body.SynthesizeText index) = Spelt document.OwnedText index.0
shape (body.SynthesizeChar char) = Element (document.OwnedText (encode_utf8 char))
shape body.Html = HtmlSlice
shape _ = NoNode

-- the kind of a node by its shape, without its range and its content
abbrev pub kind_of : List CowStr → Shape → Option BlockKind
kind_of texts (Element kind) = Some kind
kind_of texts (Spelt kind index) = option_map kind (text_at texts index)
kind_of texts TextSlice = None
kind_of texts HtmlSlice = None
kind_of texts (ParagraphOf text_end) = None
kind_of texts (TitleOf text_end) = None
kind_of texts NoNode = None

-- the kind of a node by its shape and its range
abbrev pub kind_over : List ℕ → List CowStr → (start end : ℕ) → Shape → Option BlockKind
kind_over text texts start end (Element kind) = Some kind
kind_over text texts start end (Spelt kind index) = option_map kind (text_at texts index)
kind_over text texts start end TextSlice = Some (document.Text (slice text start end))
kind_over text texts start end HtmlSlice = Some (document.Html (slice text start end))
kind_over text texts start end (ParagraphOf text_end) = Some document.Paragraph
kind_over text texts start end (TitleOf text_end) = Some document.DefinitionListTitle
kind_over text texts start end NoNode = None

abbrev pub ranged : (start end : ℕ) → BlockKind → BlockNode
ranged start end kind = node kind start end

-- one text and no other node inside; if other nodes are inside, the result begins with an item that is no node of a document
abbrev pub one_text : List ℕ → (start text_end : ℕ) → Forest (Option BlockNode) → Forest (Option BlockNode)
one_text text start text_end forest.Nil = forest.Node (Some (node (document.Text (slice text start text_end)) start text_end)) forest.Nil forest.Nil
one_text text start text_end (forest.Node first inside after) = forest.Node None inside after

-- the content of an item that begins at a place, if these nodes are inside it
abbrev pub shown_inside : List ℕ → (start : ℕ) → Shape → Forest (Option BlockNode) → Forest (Option BlockNode)
shown_inside text start (ParagraphOf text_end) below = one_text text start text_end below
shown_inside text start (TitleOf text_end) below = one_text text start text_end below
shown_inside text start _ below = below

-- an item that may have children
abbrev pub shown_element : List CowStr → Item → Option BlockNode
shown_element texts item = option_map (ranged item.start item.end) (kind_of texts (shape item.body))

module _ (text : List ℕ) (texts : List CowStr) where
  abbrev pub shown_item : Item → Option BlockNode
  shown_item item = option_map (ranged item.start item.end) (kind_over text texts item.start item.end (shape item.body))

  -- the items of a forest
  abbrev pub shown_forest : Forest Item → Forest (Option BlockNode)
  shown_forest forest.Nil = forest.Nil
  shown_forest (forest.Node item inside after) = forest.Node (shown_item item) (shown_inside text item.start (shape item.body) (shown_forest inside)) (shown_forest after)

-- the nodes of a document, in this form
abbrev pub nodes_of : BlockDocument → Forest (Option BlockNode)
nodes_of document.Nil = forest.Nil
nodes_of (document.Node node inside after) = forest.Node (Some node) (nodes_of inside) (nodes_of after)
