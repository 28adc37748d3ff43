-- The documents that a text derives, by the block grammar (CommonMark 3 to 5): its lines have blocks, the items are gathered into lists,
-- and the text of the leaves is read.
use Rattle.std.specs.Prelude.{◌≡◌, ℕ, Bool, true, false, ◌==◌, if◌then◌else◌, List, [], ◌∷◌, length, Option, Some, None}
use Rattle.cmark_grammar.specs.Answers.{Lookup}
use Rattle.cmark_grammar.specs.Options.{Options}
use Rattle.cmark_grammar.specs.Places.{Apart}
use Rattle.cmark_grammar.specs.Rows.{Row, rows, without, first_place, begin_of, start_of, last_line_end}
use Rattle.cmark_grammar.specs.Labels.{normal_form}
use Rattle.cmark_grammar.specs.LinkDefinitions.{Definition}
use Rattle.cmark_grammar.specs.Metadata.{ends_metadata}
use Rattle.cmark_grammar.specs.Containers.{BlockQuote as BlockQuotePrefix, Item, Footnote, ListDefinition}
use Rattle.cmark_grammar.specs.Openings.{Leaf, ThematicBreak as ThematicBreakLeaf, AtxHeading as AtxHeadingLeaf, IndentedCode as IndentedCodeLeaf, FencedCode as FencedCodeLeaf, HtmlBlock as HtmlBlockLeaf, LinkDefinition as LinkDefinitionLeaf, MetadataBlock as MetadataBlockLeaf, Table as TableLeaf}
use Rattle.cmark_grammar.specs.Blocks.{Blocks, Nil as NoBlocks, BlankLine, Paragraph as ParagraphBlock, SetextHeading, LeafBlock, ContainerBlock, Body}
use Rattle.cmark_grammar.specs.Lists.{ListBefore, definition_delimiter, is_title, tight_after, title_tight_after, goes_on}
use Rattle.cmark_grammar.specs.Tokens.{resolved, title_lines, paragraph_tokens, heading_tokens, heading_attributes, code_tokens, lines_before, fenced_lines, html_tokens, code_columns}
use Rattle.cmark_grammar.specs.BlockDocument.{Reference, BlockKind, Paragraph, TightParagraph, Heading, ThematicBreak, IndentedCode, FencedCode, HtmlBlock, LinkDefinition, MetadataBlock, BlockQuote, BlockList, ListItem, TaskMarker, FootnoteDefinition, DefinitionList, DefinitionListTitle, DefinitionListDefinition, BlockNode, BlockDocument, Nil, Node, node, Table}
use Rattle.cmark_grammar.specs.SetextAttributes.{content_of, setext_attributes, setext_tokens}
use Rattle.cmark_grammar.specs.TableTokens.{table_tokens}
use Rattle.cmark_grammar.specs.TaskItems.{after_box}

-- the end of the last of these lines, without its line ending
abbrev pub last_content_end : Row → List Row → ℕ
last_content_end first [] = first.content_end
last_content_end first (r ∷ more) = last_content_end r more

abbrev pub title_of : Lookup → Option (List ℕ) → Option (List ℕ)
title_of lookup None = None
title_of lookup (Some title) = Some (resolved lookup (title_lines false title))

-- a link reference definition (CommonMark 4.7): its label's normal form, and its destination and title with escapes and entities resolved
abbrev pub reference_of : Lookup → Definition → ℕ → ℕ → Reference
reference_of lookup definition start end = record {
  label = normal_form definition.label;
  destination = resolved lookup definition.destination;
  title = title_of lookup definition.title;
  start = start;
  end = end;
}

-- the range of a leaf begins at its first byte after the indent, which is four columns for indented code and zero for HTML. It ends after
-- its last line ending (this profile's own)
abbrev pub leaf_then : List ℕ → Options → Lookup → Leaf → Row → List Row → BlockDocument → BlockDocument
leaf_then text options lookup ThematicBreakLeaf first more after = Node (node ThematicBreak (start_of first) (last_line_end first more)) Nil after
leaf_then text options lookup (AtxHeadingLeaf level) first more after =
    Node (node (Heading level (heading_attributes options.heading_attributes level first)) (start_of first) (last_line_end first more)) (heading_tokens text options.heading_attributes level first) after
leaf_then text options lookup IndentedCodeLeaf first more after =
    Node (node IndentedCode (first_place first.content_end (code_columns 4 first)) (last_line_end first more)) (code_tokens text 4 (first ∷ more)) after
leaf_then text options lookup (FencedCodeLeaf fence) first more after =
    Node (node (FencedCode (resolved lookup fence.info)) (start_of first) (last_line_end first more)) (code_tokens text fence.indented (fenced_lines fence more)) after
leaf_then text options lookup (HtmlBlockLeaf kind) first more after = Node (node HtmlBlock (begin_of first) (last_line_end first more)) (html_tokens text (first ∷ more)) after
leaf_then text options lookup (LinkDefinitionLeaf definition) first more after =
    Node (node (LinkDefinition (reference_of lookup definition (start_of first) (last_content_end first more))) (start_of first) (last_line_end first more)) Nil after
leaf_then text options lookup (MetadataBlockLeaf kind) first more after =
    Node (node (MetadataBlock kind) (start_of first) (last_line_end first more)) (code_tokens text 0 (lines_before (ends_metadata kind) more)) after
leaf_then text options lookup (TableLeaf alignments) first more after =
    Node (node (Table alignments) (start_of first) (last_line_end first more)) (table_tokens text (length alignments) first more) after

-- the list of the items with this character; a definition list, if the character is `:`
abbrev pub list_kind : (delimiter : ℕ) → Option ℕ → (tight : Bool) → BlockKind
list_kind delimiter number tight = if delimiter == definition_delimiter then DefinitionList tight else BlockList number tight

-- an item, a title or a definition before others of its list, or as the only one in its list
abbrev pub new_list : (list : BlockKind) → BlockNode → (inside after : BlockDocument) → BlockDocument
new_list list item inside after = Node (node list item.start item.end) (Node item inside Nil) after

-- an item before the rest of a document: it joins the list at the beginning of that, or begins a list of its own
abbrev pub item_then : (joins : Bool) → (list : BlockKind) → BlockNode → (inside after : BlockDocument) → BlockDocument
item_then false list item inside after = new_list list item inside after
item_then true list item inside Nil = new_list list item inside Nil
item_then true list item inside (Node others items after) = Node (node list item.start others.end) (Node item inside items) after

-- a task marker, if an item has one, before the other nodes of the item; its box is between these places
abbrev pub task_then : Option Bool → (start end : ℕ) → BlockDocument → BlockDocument
task_then None start end inside = inside
task_then (Some is_checked) start end inside = Node (node (TaskMarker is_checked) start end) Nil inside

-- a paragraph directly in an item of a tight list is not an element (CommonMark 5.3)
abbrev pub paragraph_kind : (direct : Bool) → BlockKind
paragraph_kind direct = if direct then TightParagraph else Paragraph

-- the document of blocks. Direct: they are directly in an item or a definition of a tight list. List: the list of the item, title or
-- definition before. A block quote and a footnote definition begin at their marker; an item and a definition begin at the indent before the
-- marker. Each ends after its last line. A paragraph before a definition is a title; it begins a list if no title or definition precedes it
-- (this profile's own)
abbrev pub document_of : List ℕ → Options → Lookup → (direct : Bool) → (list : Option ListBefore) → Blocks → BlockDocument
document_of text options lookup direct list NoBlocks = Nil
document_of text options lookup direct list (BlankLine line after) = document_of text options lookup direct list after
document_of text options lookup direct list (ParagraphBlock first more after) =
    if is_title after then
    (let tight = title_tight_after list after in
    item_then true (DefinitionList tight) (node DefinitionListTitle (start_of first) (last_line_end first more)) (paragraph_tokens text first more)
    (document_of text options lookup direct (Some (record { delimiter = definition_delimiter; tight = tight })) after))
    else Node (node (paragraph_kind direct) (start_of first) (last_line_end first more)) (paragraph_tokens text first more) (document_of text options lookup direct None after)
document_of text options lookup direct list (SetextHeading level first more underline after) =
    Node (node (Heading level (setext_attributes options.heading_attributes (content_of (first ∷ more)))) (start_of first) underline.line_end) (setext_tokens text options.heading_attributes first more) (document_of text options lookup direct None after)
document_of text options lookup direct list (LeafBlock leaf first more after) = leaf_then text options lookup leaf first more (document_of text options lookup direct None after)
document_of text options lookup direct list (ContainerBlock (BlockQuotePrefix alert) first more inside after) =
    Node (node (BlockQuote alert) (start_of first) (last_line_end first more)) (document_of text options lookup false None inside) (document_of text options lookup direct None after)
document_of text options lookup direct list (ContainerBlock (Footnote label old size) first more inside after) =
    Node (node (FootnoteDefinition (normal_form label)) (start_of first) (last_line_end first more)) (document_of text options lookup false None inside) (document_of text options lookup direct None after)
document_of text options lookup direct list (ContainerBlock (Item delimiter number width task) first more inside after) =
    let tight = tight_after list delimiter inside after in
    item_then (goes_on delimiter after) (list_kind delimiter number tight) (node ListItem (begin_of first) (last_line_end first more))
    (task_then task (begin_of (without width first)) (begin_of (without (after_box task width) first)) (document_of text options lookup tight None inside))
    (document_of text options lookup direct (Some (record { delimiter = delimiter; tight = tight })) after)
document_of text options lookup direct list (ContainerBlock (ListDefinition width) first more inside after) =
    let tight = tight_after list definition_delimiter inside after in
    item_then (goes_on definition_delimiter after) (DefinitionList tight) (node DefinitionListDefinition (begin_of first) (last_line_end first more))
    (document_of text options lookup tight None inside)
    (document_of text options lookup direct (Some (record { delimiter = definition_delimiter; tight = tight })) after)

-- the text derives the document
abbrev pub Derives : List ℕ → Options → Lookup → BlockDocument → Type 0
Derives text options lookup document =
    (structure : Blocks) × (Body options Apart (rows text) structure) × (document ≡ document_of text options lookup false None structure)
