-- The HTML of a list of events: the HTML of each event, joined. It is written as the original writes it.
use Rattle.std.specs.Prelude.{ℕ, ◌+◌, ◌-◌, Bool, true, false, not, ◌==◌, if◌then◌else◌, List, [], ◌∷◌, ◌++◌, codes, nat_eq, take_while, Option, Some, None}
use Rattle.std.specs.Cmp.Lexicographic.{pointwise}
use Rattle.std.specs.Fmt.{decimal}
use Rattle.std.specs.List.{ends_with, slice_get, list_any, position_or_len}
use Rattle.cmark_grammar.specs.Characters.{digit_zero, line_feed, space}
use Rattle.cmark_grammar.specs.Alignment.{Alignment, Unaligned, Left, Center, Right}
use Rattle.cmark_grammar.specs.BlockQuoteKind.{BlockQuoteKind, Note, Tip, Important, Warning, Caution}
use Rattle.cmark_grammar.specs.CodeBlockKind.{CodeBlockKind, Indented, Fenced}
use Rattle.cmark_grammar.specs.LinkType.{LinkType, Email}
use Rattle.cmark_grammar.specs.Attributes.{Attribute, Attributes}
use Rattle.cmark_grammar.specs.Tag as tag
use Rattle.cmark_grammar.specs.Tag.{Tag, Linked}
use Rattle.cmark_grammar.specs.TagEnd as end
use Rattle.cmark_grammar.specs.TagEnd.{TagEnd}
use Rattle.cmark_grammar.specs.Event.{Event, Start, End, Text, Code, InlineMath, DisplayMath, Html, InlineHtml, FootnoteReference, SoftBreak, HardBreak, Rule, TaskListMarker}
use Rattle.cmark_grammar.specs.Escapes.{escaped_body_text, escaped_html, escaped_href}

-- an image whose alternative text is being written: the number of elements open inside it, and its title
pub record OpenImage : Type 0 where
  pub depth : ℕ
  pub title : List ℕ

-- the table that is being written. Its cells are those of the head, until the head has ended. It has the alignments of its columns, and
-- the number of cells of the row that have ended
pub record TableState : Type 0 where
  pub in_head : Bool
  pub alignments : List Alignment
  pub column : ℕ

-- the state between two events:
--
-- - whether the writer is at a line start: before the first event, and after HTML that ended in a line feed;
-- - the image whose alternative text is being written, if there is one;
-- - whether a metadata block is open, whose text is not written;
-- - the table;
-- - the names of the footnotes that have numbers, in order
pub record Writing : Type 0 where
  pub line_start : Bool
  pub image : Option OpenImage
  pub in_metadata : Bool
  pub table : TableState
  pub names : List (List ℕ)

-- outside of every table
abbrev pub no_table : TableState
no_table = record { in_head = true; alignments = []; column = 0 }

abbrev pub at_line_start : Writing
at_line_start = record { line_start = true; image = None; in_metadata = false; table = no_table; names = [] }

-- a line feed unless the writer is at a line start
abbrev pub fresh_line : Bool → List ℕ
fresh_line true = []
fresh_line false = line_feed ∷ []

abbrev pub ends_in_line_feed : List ℕ → Bool
ends_in_line_feed bs = ends_with nat_eq bs (line_feed ∷ [])

-- the digit of a level below ten
abbrev pub digit : ℕ → ℕ
digit level = digit_zero + level

-- a text in the value of an attribute, after the attribute's name
abbrev pub quoted : List ℕ → List ℕ → List ℕ
quoted name text = name ++ (codes "=\"" ++ (escaped_html text ++ codes "\""))

-- a heading's attributes: its id, its classes with a space between each two, and the others, whose names are escaped too
abbrev pub id_attribute : Option (List ℕ) → List ℕ
id_attribute None = []
id_attribute (Some id) = quoted (codes " id") id

abbrev pub further_classes : List (List ℕ) → List ℕ
further_classes [] = []
further_classes (name ∷ names) = space ∷ (escaped_html name ++ further_classes names)

abbrev pub class_attribute : List (List ℕ) → List ℕ
class_attribute [] = []
class_attribute (name ∷ names) = codes " class=\"" ++ (escaped_html name ++ (further_classes names ++ codes "\""))

abbrev pub value_or_empty : Option (List ℕ) → List ℕ
value_or_empty None = []
value_or_empty (Some value) = value

abbrev pub other_attribute : Attribute → List ℕ
other_attribute a = space ∷ quoted (escaped_html a.name) (value_or_empty a.value)

abbrev pub other_attributes : List Attribute → List ℕ
other_attributes [] = []
other_attributes (a ∷ others) = other_attribute a ++ other_attributes others

abbrev pub heading_attributes : Attributes → List ℕ
heading_attributes a = id_attribute a.id ++ (class_attribute a.classes ++ other_attributes a.others)

abbrev pub alert_name : BlockQuoteKind → List ℕ
alert_name Note = codes "note"
alert_name Tip = codes "tip"
alert_name Important = codes "important"
alert_name Warning = codes "warning"
alert_name Caution = codes "caution"

abbrev pub block_quote_start : Option BlockQuoteKind → List ℕ
block_quote_start None = codes "<blockquote>\n"
block_quote_start (Some kind) = codes "<blockquote class=\"markdown-alert-" ++ (alert_name kind ++ codes "\">\n")

-- the first word of an info string, up to its first space, is the language (CommonMark 4.5)
abbrev pub is_within_word : ℕ → Bool
is_within_word b = not (b == space)

abbrev pub language_start : List ℕ → List ℕ
language_start [] = codes "<pre><code>"
language_start (b ∷ bs) = codes "<pre><code class=\"language-" ++ (escaped_html (b ∷ bs) ++ codes "\">")

abbrev pub code_block_start : CodeBlockKind → List ℕ
code_block_start Indented = codes "<pre><code>"
code_block_start (Fenced info) = language_start (take_while is_within_word info)

-- an ordered list has its first number as an attribute, unless it is 1 (CommonMark 5.3)
abbrev pub list_start : Option ℕ → List ℕ
list_start None = codes "<ul>\n"
list_start (Some first) = if first == 1 then codes "<ol>\n" else codes "<ol start=\"" ++ (decimal first ++ codes "\">\n")

abbrev pub list_end : Bool → List ℕ
list_end false = codes "</ul>\n"
list_end true = codes "</ol>\n"

abbrev pub scheme : LinkType → List ℕ
scheme Email = codes "mailto:"
scheme _ = []

abbrev pub title_attribute : List ℕ → List ℕ
title_attribute [] = []
title_attribute (b ∷ bs) = quoted (codes " title") (b ∷ bs)

abbrev pub link_start : Linked → List ℕ
link_start l = codes "<a href=\"" ++ (scheme l.link_type ++ (escaped_href l.destination ++ (codes "\"" ++ (title_attribute l.title ++ codes ">"))))

-- an image before its alternative text, and after it
abbrev pub image_start : List ℕ → List ℕ
image_start destination = codes "<img src=\"" ++ (escaped_href destination ++ codes "\" alt=\"")

abbrev pub image_end : List ℕ → List ℕ
image_end title = codes "\"" ++ (title_attribute title ++ codes " />")

-- a table cell before its text, with the alignment of its column, and after it. Cells after the last column have no alignment
abbrev pub cell_tag : Bool → List ℕ
cell_tag true = codes "<th"
cell_tag false = codes "<td"

abbrev pub alignment_style : Option Alignment → List ℕ
alignment_style None = []
alignment_style (Some Unaligned) = []
alignment_style (Some Left) = codes " style=\"text-align: left\""
alignment_style (Some Center) = codes " style=\"text-align: center\""
alignment_style (Some Right) = codes " style=\"text-align: right\""

abbrev pub cell_start : TableState → List ℕ
cell_start t = cell_tag t.in_head ++ (alignment_style (slice_get t.alignments t.column) ++ codes ">")

abbrev pub cell_end : Bool → List ℕ
cell_end true = codes "</th>"
cell_end false = codes "</td>"

-- a footnote is written with the number of its name, in digits. Names are numbered from 1 in order of appearance, references and
-- definitions alike. Two names are equal if their bytes are
abbrev pub footnote_number : List (List ℕ) → List ℕ → ℕ
footnote_number names name = position_or_len (pointwise nat_eq name) names + 1

abbrev pub named : List (List ℕ) → List ℕ → List (List ℕ)
named names name = if list_any (pointwise nat_eq name) names then names else names ++ name ∷ []

abbrev pub footnote_start : List ℕ → List ℕ → List ℕ
footnote_start name digits =
    codes "<div class=\"footnote-definition\" id=\"" ++ (escaped_html name ++ (codes "\"><sup class=\"footnote-definition-label\">" ++ (digits ++ codes "</sup>")))

abbrev pub footnote_reference : List ℕ → List ℕ → List ℕ
footnote_reference name digits = codes "<sup class=\"footnote-reference\"><a href=\"#" ++ (escaped_html name ++ (codes "\">" ++ (digits ++ codes "</a></sup>")))

abbrev pub alt_footnote_reference : List ℕ → List ℕ
alt_footnote_reference digits = codes "[" ++ (digits ++ codes "]")

-- the start and the end of an HTML block or a metadata block write nothing
abbrev pub start_piece : Writing → Tag → List ℕ
start_piece w tag.Paragraph = fresh_line w.line_start ++ codes "<p>"
start_piece w (tag.Heading level attributes) = fresh_line w.line_start ++ (codes "<h" ++ (digit level ∷ (heading_attributes attributes ++ codes ">")))
start_piece w (tag.BlockQuote kind) = fresh_line w.line_start ++ block_quote_start kind
start_piece w (tag.CodeBlock kind) = fresh_line w.line_start ++ code_block_start kind
start_piece w (tag.Listing first) = fresh_line w.line_start ++ list_start first
start_piece w tag.ListItem = fresh_line w.line_start ++ codes "<li>"
start_piece w (tag.FootnoteDefinition label) = fresh_line w.line_start ++ footnote_start label (decimal (footnote_number w.names label))
start_piece w tag.DefinitionList = fresh_line w.line_start ++ codes "<dl>\n"
start_piece w tag.DefinitionListTitle = fresh_line w.line_start ++ codes "<dt>"
start_piece w tag.DefinitionListDefinition = fresh_line w.line_start ++ codes "<dd>"
start_piece w (tag.Table alignments) = codes "<table>"
start_piece w tag.TableHead = codes "<thead><tr>"
start_piece w tag.TableRow = codes "<tr>"
start_piece w tag.TableCell = cell_start w.table
start_piece w tag.Emphasis = codes "<em>"
start_piece w tag.Strong = codes "<strong>"
start_piece w tag.Strikethrough = codes "<del>"
start_piece w tag.Superscript = codes "<sup>"
start_piece w tag.Subscript = codes "<sub>"
start_piece w tag.Highlight = codes "<mark>"
start_piece w (tag.Link linked) = link_start linked
start_piece w (tag.Image linked) = image_start linked.destination
start_piece w _ = []

abbrev pub heading_end : ℕ → List ℕ
heading_end level = codes "</h" ++ (digit level ∷ codes ">\n")

abbrev pub end_piece : Bool → TagEnd → List ℕ
end_piece in_head end.Paragraph = codes "</p>\n"
end_piece in_head (end.Heading level) = heading_end level
end_piece in_head (end.BlockQuote kind) = codes "</blockquote>\n"
end_piece in_head end.CodeBlock = codes "</code></pre>\n"
end_piece in_head (end.Listing is_ordered) = list_end is_ordered
end_piece in_head end.ListItem = codes "</li>\n"
end_piece in_head end.FootnoteDefinition = codes "</div>\n"
end_piece in_head end.DefinitionList = codes "</dl>\n"
end_piece in_head end.DefinitionListTitle = codes "</dt>\n"
end_piece in_head end.DefinitionListDefinition = codes "</dd>\n"
end_piece in_head end.Table = codes "</tbody></table>\n"
end_piece in_head end.TableHead = codes "</tr></thead><tbody>\n"
end_piece in_head end.TableRow = codes "</tr>\n"
end_piece in_head end.TableCell = cell_end in_head
end_piece in_head end.Emphasis = codes "</em>"
end_piece in_head end.Strong = codes "</strong>"
end_piece in_head end.Strikethrough = codes "</del>"
end_piece in_head end.Superscript = codes "</sup>"
end_piece in_head end.Subscript = codes "</sub>"
end_piece in_head end.Highlight = codes "</mark>"
end_piece in_head end.Link = codes "</a>"
end_piece in_head _ = []

abbrev pub task_list_marker : Bool → List ℕ
task_list_marker true = codes "<input disabled=\"\" type=\"checkbox\" checked=\"\"/>\n"
task_list_marker false = codes "<input disabled=\"\" type=\"checkbox\"/>\n"

abbrev pub text_piece : Bool → List ℕ → List ℕ
text_piece true text = []
text_piece false text = escaped_body_text text

-- the HTML of an event outside of images
abbrev pub piece_outside : Writing → Event → List ℕ
piece_outside w (Start tag) = start_piece w tag
piece_outside w (End tag) = end_piece w.table.in_head tag
piece_outside w (Text text) = text_piece w.in_metadata text
piece_outside w (Code text) = codes "<code>" ++ (escaped_body_text text ++ codes "</code>")
piece_outside w (InlineMath text) = codes "<span class=\"math math-inline\">" ++ (escaped_html text ++ codes "</span>")
piece_outside w (DisplayMath text) = codes "<span class=\"math math-display\">" ++ (escaped_html text ++ codes "</span>")
piece_outside w (Html text) = text
piece_outside w (InlineHtml text) = text
piece_outside w (FootnoteReference label) = footnote_reference label (decimal (footnote_number w.names label))
piece_outside w SoftBreak = line_feed ∷ []
piece_outside w HardBreak = codes "<br />\n"
piece_outside w Rule = fresh_line w.line_start ++ codes "<hr />\n"
piece_outside w (TaskListMarker is_checked) = task_list_marker is_checked

abbrev pub alt_task_list_marker : Bool → List ℕ
alt_task_list_marker true = codes "[x]"
alt_task_list_marker false = codes "[ ]"

-- the alternative text that an event adds to an image around it: the text without the elements (CommonMark 6.4)
abbrev pub alt_text : List (List ℕ) → Event → List ℕ
alt_text names (Text text) = escaped_html text
alt_text names (Code text) = escaped_html text
alt_text names (InlineMath text) = codes "$" ++ (escaped_html text ++ codes "$")
alt_text names (DisplayMath text) = codes "$$" ++ (escaped_html text ++ codes "$$")
alt_text names (InlineHtml text) = escaped_html text
alt_text names (FootnoteReference label) = alt_footnote_reference (decimal (footnote_number names label))
alt_text names SoftBreak = codes " "
alt_text names HardBreak = codes " "
alt_text names Rule = codes " "
alt_text names (TaskListMarker is_checked) = alt_task_list_marker is_checked
alt_text names _ = []

-- the HTML of an event inside an image: the end that matches the image's start closes it, of whatever element that end is
abbrev pub piece_inside : List (List ℕ) → OpenImage → Event → List ℕ
piece_inside names image (End tag) = if image.depth == 0 then image_end image.title else []
piece_inside names image e = alt_text names e

abbrev pub piece_in : Option OpenImage → Writing → Event → List ℕ
piece_in None w e = piece_outside w e
piece_in (Some image) w e = piece_inside w.names image e

-- the HTML of an event
abbrev pub piece : Writing → Event → List ℕ
piece w e = piece_in w.image w e

-- whether the writer is at a line start after the start of an element
abbrev pub line_start_after_start : Bool → Tag → Bool
line_start_after_start at_start (tag.BlockQuote kind) = true
line_start_after_start at_start tag.HtmlBlock = at_start
line_start_after_start at_start (tag.Listing first) = true
line_start_after_start at_start tag.DefinitionList = true
line_start_after_start at_start (tag.MetadataBlock kind) = at_start
line_start_after_start at_start _ = false

abbrev pub line_start_after_end : Bool → TagEnd → Bool
line_start_after_end at_start end.HtmlBlock = at_start
line_start_after_end at_start end.TableCell = false
line_start_after_end at_start end.Emphasis = false
line_start_after_end at_start end.Strong = false
line_start_after_end at_start end.Strikethrough = false
line_start_after_end at_start end.Superscript = false
line_start_after_end at_start end.Subscript = false
line_start_after_end at_start end.Highlight = false
line_start_after_end at_start end.Link = false
line_start_after_end at_start end.Image = at_start
line_start_after_end at_start (end.MetadataBlock kind) = at_start
line_start_after_end at_start _ = true

-- an empty HTML event leaves the line start as it is; after an empty text the writer is at no line start
abbrev pub line_start_after_html : Bool → List ℕ → Bool
line_start_after_html at_start [] = at_start
line_start_after_html at_start (b ∷ bs) = ends_in_line_feed (b ∷ bs)

abbrev pub line_start_after : Writing → Event → Bool
line_start_after w (Start tag) = line_start_after_start w.line_start tag
line_start_after w (End tag) = line_start_after_end w.line_start tag
line_start_after w (Text text) = if w.in_metadata then w.line_start else ends_in_line_feed text
line_start_after w (Html text) = line_start_after_html w.line_start text
line_start_after w (InlineHtml text) = line_start_after_html w.line_start text
line_start_after w SoftBreak = true
line_start_after w HardBreak = true
line_start_after w Rule = true
line_start_after w (TaskListMarker is_checked) = true
line_start_after w _ = false

-- the image that an event opens
abbrev pub opened_by : Tag → Option OpenImage
opened_by (tag.Image linked) = Some (record { depth = 0; title = linked.title })
opened_by _ = None

abbrev pub opened_image : Event → Option OpenImage
opened_image (Start tag) = opened_by tag
opened_image _ = None

-- whether a metadata block is open after an event
abbrev pub metadata_after : Bool → Event → Bool
metadata_after in_metadata (Start (tag.MetadataBlock kind)) = true
metadata_after in_metadata (End (end.MetadataBlock kind)) = false
metadata_after in_metadata _ = in_metadata

-- the table after an event
abbrev pub table_after_start : TableState → Tag → TableState
table_after_start t (tag.Table alignments) = record { in_head = t.in_head; alignments = alignments; column = t.column }
table_after_start t tag.TableHead = record { in_head = true; alignments = t.alignments; column = 0 }
table_after_start t tag.TableRow = record { in_head = t.in_head; alignments = t.alignments; column = 0 }
table_after_start t _ = t

abbrev pub table_after_end : TableState → TagEnd → TableState
table_after_end t end.TableHead = record { in_head = false; alignments = t.alignments; column = t.column }
table_after_end t end.TableCell = record { in_head = t.in_head; alignments = t.alignments; column = t.column + 1 }
table_after_end t end.Table = no_table
table_after_end t _ = t

abbrev pub table_after : TableState → Event → TableState
table_after t (Start tag) = table_after_start t tag
table_after t (End tag) = table_after_end t tag
table_after t _ = t

-- the image around an event that is still open after it: starts and ends count the depth
abbrev pub deeper : OpenImage → OpenImage
deeper image = record { depth = image.depth + 1; title = image.title }

abbrev pub less_deep : OpenImage → OpenImage
less_deep image = record { depth = image.depth - 1; title = image.title }

abbrev pub still_open : OpenImage → Event → Option OpenImage
still_open image (Start tag) = Some (deeper image)
still_open image (End tag) = if image.depth == 0 then None else Some (less_deep image)
still_open image _ = Some image

-- the names of footnotes after an event outside of images, and after one inside, where a definition writes nothing
abbrev pub names_after_start : List (List ℕ) → Tag → List (List ℕ)
names_after_start names (tag.FootnoteDefinition label) = named names label
names_after_start names _ = names

abbrev pub names_after : List (List ℕ) → Event → List (List ℕ)
names_after names (Start tag) = names_after_start names tag
names_after names (FootnoteReference label) = named names label
names_after names _ = names

abbrev pub names_after_inside : List (List ℕ) → Event → List (List ℕ)
names_after_inside names (FootnoteReference label) = named names label
names_after_inside names _ = names

-- the state after an event; after an image the writer is at no line start
abbrev pub moved_outside : Writing → Event → Writing
moved_outside w e = record {
  line_start = line_start_after w e;
  image = opened_image e;
  in_metadata = metadata_after w.in_metadata e;
  table = table_after w.table e;
  names = names_after w.names e;
}

abbrev pub moved_inside : Writing → OpenImage → Event → Writing
moved_inside w image e = record {
  line_start = false;
  image = still_open image e;
  in_metadata = w.in_metadata;
  table = w.table;
  names = names_after_inside w.names e;
}

abbrev pub moved_in : Option OpenImage → Writing → Event → Writing
moved_in None w e = moved_outside w e
moved_in (Some image) w e = moved_inside w image e

abbrev pub moved : Writing → Event → Writing
moved w e = moved_in w.image w e

abbrev pub moved_all : Writing → List Event → Writing
moved_all w [] = w
moved_all w (e ∷ es) = moved_all (moved w e) es

-- the HTML of events, in order
abbrev pub pieces_from : Writing → List Event → List ℕ
pieces_from w [] = []
pieces_from w (e ∷ es) = piece w e ++ pieces_from (moved w e) es

abbrev pub pieces : List Event → List ℕ
pieces events = pieces_from at_line_start events

-- the HTML that closes an image which is still open after the last event
abbrev pub last_piece : Option OpenImage → List ℕ
last_piece None = []
last_piece (Some image) = image_end image.title

-- the HTML of a list of events, from the first to the last
abbrev pub html : List Event → List ℕ
html events = pieces events ++ last_piece (moved_all at_line_start events).image
