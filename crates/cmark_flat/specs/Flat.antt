-- The flat records of events.
use Rattle.std.specs.Prelude.{ℕ, Bool, true, false, List, [], ◌∷◌, ◌++◌, map, Option, Some, None}
use Rattle.std.specs.List.{flat_map}
use Rattle.cmark_grammar.specs.Alignment.{Alignment, Unaligned, Left, Center, Right}
use Rattle.cmark_grammar.specs.Attributes.{Attribute, Attributes}
use Rattle.cmark_grammar.specs.BlockQuoteKind.{BlockQuoteKind, Note, Tip, Important, Warning, Caution}
use Rattle.cmark_grammar.specs.CodeBlockKind.{CodeBlockKind, Indented, Fenced}
use Rattle.cmark_grammar.specs.Event.{Event, Ranged, Start, End, Text, Code, InlineMath, DisplayMath, Html, InlineHtml, FootnoteReference, SoftBreak, HardBreak, Rule, TaskListMarker}
use Rattle.cmark_grammar.specs.LinkType.{LinkType, Inline, Reference, ReferenceUnknown, Collapsed, CollapsedUnknown, Shortcut, ShortcutUnknown, Autolink, Email, WikiLink}
use Rattle.cmark_grammar.specs.MetadataBlockKind.{MetadataBlockKind, YamlStyle, PlusesStyle}
use Rattle.cmark_grammar.specs.Tag as tag
use Rattle.cmark_grammar.specs.Tag.{Tag, Linked}
use Rattle.cmark_grammar.specs.TagEnd as end
use Rattle.cmark_grammar.specs.TagEnd.{TagEnd}
use Rattle.cmark_flat.specs.Numbers as number
use Rattle.cmark_flat.specs.Records.{FlatRecord, spelled}

abbrev pub yes_or_no : Bool → ℕ
yes_or_no true = number.yes
yes_or_no false = number.no

abbrev pub alignment_number : Alignment → ℕ
alignment_number Unaligned = number.unaligned_column
alignment_number Left = number.left_column
alignment_number Center = number.center_column
alignment_number Right = number.right_column

abbrev pub quote_number : Option BlockQuoteKind → ℕ
quote_number None = number.no_alert_quote
quote_number (Some Note) = number.note_quote
quote_number (Some Tip) = number.tip_quote
quote_number (Some Important) = number.important_quote
quote_number (Some Warning) = number.warning_quote
quote_number (Some Caution) = number.caution_quote

abbrev pub code_number : CodeBlockKind → ℕ
code_number Indented = number.indented_block
code_number (Fenced info) = number.fenced_block

abbrev pub info_text : CodeBlockKind → List ℕ
info_text Indented = []
info_text (Fenced info) = info

abbrev pub metadata_number : MetadataBlockKind → ℕ
metadata_number YamlStyle = number.yaml_metadata
metadata_number PlusesStyle = number.pluses_metadata

abbrev pub link_number : LinkType → ℕ
link_number Inline = number.inline_link
link_number Reference = number.reference_link
link_number ReferenceUnknown = number.reference_unknown_link
link_number Collapsed = number.collapsed_link
link_number CollapsedUnknown = number.collapsed_unknown_link
link_number Shortcut = number.shortcut_link
link_number ShortcutUnknown = number.shortcut_unknown_link
link_number Autolink = number.autolink_link
link_number Email = number.email_link
link_number (WikiLink false) = number.wikilink_link
link_number (WikiLink true) = number.wikilink_with_pothole_link

-- which list it is: an ordered one has a first number
abbrev pub list_number : Option ℕ → ℕ
list_number None = number.no
list_number (Some first) = number.yes

-- the tag of an element
abbrev pub tag_number : Tag → ℕ
tag_number tag.Paragraph = number.paragraph_tag
tag_number (tag.Heading level attributes) = number.heading_tag
tag_number (tag.BlockQuote kind) = number.block_quote_tag
tag_number (tag.CodeBlock kind) = number.code_block_tag
tag_number tag.HtmlBlock = number.html_block_tag
tag_number (tag.Listing first) = number.list_tag
tag_number tag.ListItem = number.item_tag
tag_number (tag.FootnoteDefinition label) = number.footnote_definition_tag
tag_number tag.DefinitionList = number.definition_list_tag
tag_number tag.DefinitionListTitle = number.definition_list_title_tag
tag_number tag.DefinitionListDefinition = number.definition_list_definition_tag
tag_number (tag.Table alignments) = number.table_tag
tag_number tag.TableHead = number.table_head_tag
tag_number tag.TableRow = number.table_row_tag
tag_number tag.TableCell = number.table_cell_tag
tag_number tag.Emphasis = number.emphasis_tag
tag_number tag.Strong = number.strong_tag
tag_number tag.Strikethrough = number.strikethrough_tag
tag_number tag.Superscript = number.superscript_tag
tag_number tag.Subscript = number.subscript_tag
tag_number tag.Highlight = number.highlight_tag
tag_number (tag.Link linked) = number.link_tag
tag_number (tag.Image linked) = number.image_tag
tag_number (tag.MetadataBlock kind) = number.metadata_block_tag

abbrev pub tag_datum : Tag → ℕ
tag_datum (tag.Heading level attributes) = level
tag_datum (tag.BlockQuote kind) = quote_number kind
tag_datum (tag.CodeBlock kind) = code_number kind
tag_datum (tag.Listing first) = list_number first
tag_datum (tag.Link linked) = link_number linked.link_type
tag_datum (tag.Image linked) = link_number linked.link_type
tag_datum (tag.MetadataBlock kind) = metadata_number kind
tag_datum t = number.no_data

abbrev pub tag_text : Tag → List ℕ
tag_text (tag.CodeBlock kind) = info_text kind
tag_text (tag.FootnoteDefinition label) = label
tag_text (tag.Table alignments) = map alignment_number alignments
tag_text (tag.Link linked) = linked.destination
tag_text (tag.Image linked) = linked.destination
tag_text t = []

-- a further record with this text
abbrev pub part : ℕ → List ℕ → FlatRecord
part kind text = record { kind = number.further_kind; tag = kind; datum = number.no_data; start = 0; end = 0; text = text }

-- the first number of an ordered list
abbrev pub first_part : Option ℕ → List FlatRecord
first_part None = []
first_part (Some first) = record { kind = number.further_kind; tag = number.first_number_part; datum = number.no_data; start = first; end = 0; text = [] } ∷ []

abbrev pub id_part : Option (List ℕ) → List FlatRecord
id_part None = []
id_part (Some id) = part number.heading_id_part id ∷ []

abbrev pub class_part : List ℕ → FlatRecord
class_part name = part number.class_part name

abbrev pub value_part : Option (List ℕ) → FlatRecord
value_part None = part number.no_value_part []
value_part (Some value) = part number.value_part value

abbrev pub attribute_parts : Attribute → List FlatRecord
attribute_parts a = part number.attribute_part a.name ∷ value_part a.value ∷ []

abbrev pub heading_parts : Attributes → List FlatRecord
heading_parts a = id_part a.id ++ (map class_part a.classes ++ flat_map attribute_parts a.others)

abbrev pub linked_parts : Linked → List FlatRecord
linked_parts l = part number.title_part l.title ∷ part number.label_part l.id ∷ []

-- the further records of a start
abbrev pub tag_parts : Tag → List FlatRecord
tag_parts (tag.Heading level attributes) = heading_parts attributes
tag_parts (tag.Listing first) = first_part first
tag_parts (tag.Link linked) = linked_parts linked
tag_parts (tag.Image linked) = linked_parts linked
tag_parts t = []

-- the tag of an end
abbrev pub end_number : TagEnd → ℕ
end_number end.Paragraph = number.paragraph_tag
end_number (end.Heading level) = number.heading_tag
end_number (end.BlockQuote kind) = number.block_quote_tag
end_number end.CodeBlock = number.code_block_tag
end_number end.HtmlBlock = number.html_block_tag
end_number (end.Listing is_ordered) = number.list_tag
end_number end.ListItem = number.item_tag
end_number end.FootnoteDefinition = number.footnote_definition_tag
end_number end.DefinitionList = number.definition_list_tag
end_number end.DefinitionListTitle = number.definition_list_title_tag
end_number end.DefinitionListDefinition = number.definition_list_definition_tag
end_number end.Table = number.table_tag
end_number end.TableHead = number.table_head_tag
end_number end.TableRow = number.table_row_tag
end_number end.TableCell = number.table_cell_tag
end_number end.Emphasis = number.emphasis_tag
end_number end.Strong = number.strong_tag
end_number end.Strikethrough = number.strikethrough_tag
end_number end.Superscript = number.superscript_tag
end_number end.Subscript = number.subscript_tag
end_number end.Highlight = number.highlight_tag
end_number end.Link = number.link_tag
end_number end.Image = number.image_tag
end_number (end.MetadataBlock kind) = number.metadata_block_tag

abbrev pub end_datum : TagEnd → ℕ
end_datum (end.Heading level) = level
end_datum (end.BlockQuote kind) = quote_number kind
end_datum (end.Listing is_ordered) = yes_or_no is_ordered
end_datum (end.MetadataBlock kind) = metadata_number kind
end_datum e = number.no_data

abbrev pub kind_number : Event → ℕ
kind_number (Start t) = number.start_kind
kind_number (End e) = number.end_kind
kind_number (Text text) = number.text_kind
kind_number (Code text) = number.code_kind
kind_number (InlineMath text) = number.inline_math_kind
kind_number (DisplayMath text) = number.display_math_kind
kind_number (Html text) = number.html_kind
kind_number (InlineHtml text) = number.inline_html_kind
kind_number (FootnoteReference label) = number.footnote_reference_kind
kind_number SoftBreak = number.soft_break_kind
kind_number HardBreak = number.hard_break_kind
kind_number Rule = number.rule_kind
kind_number (TaskListMarker is_checked) = number.task_list_marker_kind

abbrev pub event_tag : Event → ℕ
event_tag (Start t) = tag_number t
event_tag (End e) = end_number e
event_tag e = number.no_tag

abbrev pub event_datum : Event → ℕ
event_datum (Start t) = tag_datum t
event_datum (End e) = end_datum e
event_datum (TaskListMarker is_checked) = yes_or_no is_checked
event_datum e = number.no_data

abbrev pub event_text : Event → List ℕ
event_text (Start t) = tag_text t
event_text (Text text) = text
event_text (Code text) = text
event_text (InlineMath text) = text
event_text (DisplayMath text) = text
event_text (Html text) = text
event_text (InlineHtml text) = text
event_text (FootnoteReference label) = label
event_text e = []

abbrev pub event_parts : Event → List FlatRecord
event_parts (Start t) = tag_parts t
event_parts e = []

-- the record of an event, without its further records
abbrev pub event_record : Ranged → FlatRecord
event_record r = record { kind = kind_number r.event; tag = event_tag r.event; datum = event_datum r.event; start = r.start; end = r.end; text = event_text r.event }

abbrev pub records : Ranged → List FlatRecord
records r = event_record r ∷ event_parts r.event

-- the bytes of events with their ranges
abbrev pub flat : List Ranged → List ℕ
flat rs = spelled (flat_map records rs)
