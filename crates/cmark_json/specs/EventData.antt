-- An event as JSON: an array of its name and its data, in the order in which the library declares them. Absent data is null. A variant
-- without data is its name, as a string.
use Rattle.std.specs.Prelude.{ℕ, List, map, codes, Option, Some, None}
use Rattle.cmark_grammar.specs.Alignment.{Alignment, Unaligned, Left, Center, Right}
use Rattle.cmark_grammar.specs.Attributes.{Attribute, Attributes}
use Rattle.cmark_grammar.specs.BlockQuoteKind.{BlockQuoteKind, Note, Tip, Important, Warning, Caution}
use Rattle.cmark_grammar.specs.CodeBlockKind.{CodeBlockKind, Indented, Fenced}
use Rattle.cmark_grammar.specs.Event.{Event, Start, End, Text, Code, InlineMath, DisplayMath, Html, InlineHtml, FootnoteReference, SoftBreak, HardBreak, Rule, TaskListMarker}
use Rattle.cmark_grammar.specs.LinkType.{LinkType, Inline, Reference, ReferenceUnknown, Collapsed, CollapsedUnknown, Shortcut, ShortcutUnknown, Autolink, Email, WikiLink}
use Rattle.cmark_grammar.specs.MetadataBlockKind.{MetadataBlockKind, YamlStyle, PlusesStyle}
use Rattle.cmark_grammar.specs.Tag as tag
use Rattle.cmark_grammar.specs.Tag.{Tag, Linked}
use Rattle.cmark_grammar.specs.TagEnd as end
use Rattle.cmark_grammar.specs.TagEnd.{TagEnd}
use Rattle.serde_json.specs.View.{items_of}
use Rattle.serde_json.specs.Data.{Data, null, boolean, number, unsigned, string, array, Items, no_items, item}

-- a name with several data, with one, or alone
abbrev pub named : List ℕ → Items → Data
named name items = array (item (string name) items)

abbrev pub with_one : List ℕ → Data → Data
with_one name value = named name (item value no_items)

abbrev pub alone : List ℕ → Data
alone name = named name no_items

abbrev pub text_or_null : Option (List ℕ) → Data
text_or_null None = null
text_or_null (Some text) = string text

abbrev pub number_or_null : Option ℕ → Data
number_or_null None = null
number_or_null (Some n) = number (unsigned n)

-- an attribute's name, and its value, if it has one
abbrev pub attribute_data : Attribute → Data
attribute_data a = array (item (string a.name) (item (text_or_null a.value) no_items))

abbrev pub alignment_name : Alignment → List ℕ
alignment_name Unaligned = codes "None"
alignment_name Left = codes "Left"
alignment_name Center = codes "Center"
alignment_name Right = codes "Right"

abbrev pub alignment_data : Alignment → Data
alignment_data a = string (alignment_name a)

abbrev pub quote_kind_data : Option BlockQuoteKind → Data
quote_kind_data None = null
quote_kind_data (Some Note) = string (codes "Note")
quote_kind_data (Some Tip) = string (codes "Tip")
quote_kind_data (Some Important) = string (codes "Important")
quote_kind_data (Some Warning) = string (codes "Warning")
quote_kind_data (Some Caution) = string (codes "Caution")

abbrev pub code_kind_data : CodeBlockKind → Data
code_kind_data Indented = alone (codes "Indented")
code_kind_data (Fenced info) = with_one (codes "Fenced") (string info)

abbrev pub metadata_kind_name : MetadataBlockKind → List ℕ
metadata_kind_name YamlStyle = codes "YamlStyle"
metadata_kind_name PlusesStyle = codes "PlusesStyle"

abbrev pub link_type_data : LinkType → Data
link_type_data Inline = string (codes "Inline")
link_type_data Reference = string (codes "Reference")
link_type_data ReferenceUnknown = string (codes "ReferenceUnknown")
link_type_data Collapsed = string (codes "Collapsed")
link_type_data CollapsedUnknown = string (codes "CollapsedUnknown")
link_type_data Shortcut = string (codes "Shortcut")
link_type_data ShortcutUnknown = string (codes "ShortcutUnknown")
link_type_data Autolink = string (codes "Autolink")
link_type_data Email = string (codes "Email")
link_type_data (WikiLink has_pothole) = with_one (codes "WikiLink") (boolean has_pothole)

abbrev pub linked : Linked → Items
linked l = item (link_type_data l.link_type) (item (string l.destination) (item (string l.title) (item (string l.id) no_items)))

abbrev pub heading : ℕ → Attributes → Items
heading level a = item (number (unsigned level)) (item (text_or_null a.id) (item (array (items_of (map string a.classes))) (item (array (items_of (map attribute_data a.others))) no_items)))

abbrev pub tag_data : Tag → Data
tag_data tag.Paragraph = alone (codes "Paragraph")
tag_data (tag.Heading level a) = named (codes "Heading") (heading level a)
tag_data (tag.BlockQuote kind) = with_one (codes "BlockQuote") (quote_kind_data kind)
tag_data (tag.CodeBlock kind) = with_one (codes "CodeBlock") (code_kind_data kind)
tag_data tag.HtmlBlock = alone (codes "HtmlBlock")
tag_data (tag.Listing first) = with_one (codes "List") (number_or_null first)
tag_data tag.ListItem = alone (codes "Item")
tag_data (tag.FootnoteDefinition label) = with_one (codes "FootnoteDefinition") (string label)
tag_data tag.DefinitionList = alone (codes "DefinitionList")
tag_data tag.DefinitionListTitle = alone (codes "DefinitionListTitle")
tag_data tag.DefinitionListDefinition = alone (codes "DefinitionListDefinition")
tag_data (tag.Table columns) = with_one (codes "Table") (array (items_of (map alignment_data columns)))
tag_data tag.TableHead = alone (codes "TableHead")
tag_data tag.TableRow = alone (codes "TableRow")
tag_data tag.TableCell = alone (codes "TableCell")
tag_data tag.Emphasis = alone (codes "Emphasis")
tag_data tag.Strong = alone (codes "Strong")
tag_data tag.Strikethrough = alone (codes "Strikethrough")
tag_data tag.Superscript = alone (codes "Superscript")
tag_data tag.Subscript = alone (codes "Subscript")
tag_data tag.Highlight = alone (codes "Highlight")
tag_data (tag.Link l) = named (codes "Link") (linked l)
tag_data (tag.Image l) = named (codes "Image") (linked l)
tag_data (tag.MetadataBlock kind) = with_one (codes "MetadataBlock") (string (metadata_kind_name kind))

abbrev pub end_data : TagEnd → Data
end_data end.Paragraph = alone (codes "Paragraph")
end_data (end.Heading level) = with_one (codes "Heading") (number (unsigned level))
end_data (end.BlockQuote kind) = with_one (codes "BlockQuote") (quote_kind_data kind)
end_data end.CodeBlock = alone (codes "CodeBlock")
end_data end.HtmlBlock = alone (codes "HtmlBlock")
end_data (end.Listing is_ordered) = with_one (codes "List") (boolean is_ordered)
end_data end.ListItem = alone (codes "Item")
end_data end.FootnoteDefinition = alone (codes "FootnoteDefinition")
end_data end.DefinitionList = alone (codes "DefinitionList")
end_data end.DefinitionListTitle = alone (codes "DefinitionListTitle")
end_data end.DefinitionListDefinition = alone (codes "DefinitionListDefinition")
end_data end.Table = alone (codes "Table")
end_data end.TableHead = alone (codes "TableHead")
end_data end.TableRow = alone (codes "TableRow")
end_data end.TableCell = alone (codes "TableCell")
end_data end.Emphasis = alone (codes "Emphasis")
end_data end.Strong = alone (codes "Strong")
end_data end.Strikethrough = alone (codes "Strikethrough")
end_data end.Superscript = alone (codes "Superscript")
end_data end.Subscript = alone (codes "Subscript")
end_data end.Highlight = alone (codes "Highlight")
end_data end.Link = alone (codes "Link")
end_data end.Image = alone (codes "Image")
end_data (end.MetadataBlock kind) = with_one (codes "MetadataBlock") (string (metadata_kind_name kind))

abbrev pub event_data : Event → Data
event_data (Start tag) = with_one (codes "Start") (tag_data tag)
event_data (End tag) = with_one (codes "End") (end_data tag)
event_data (Text text) = with_one (codes "Text") (string text)
event_data (Code text) = with_one (codes "Code") (string text)
event_data (InlineMath text) = with_one (codes "InlineMath") (string text)
event_data (DisplayMath text) = with_one (codes "DisplayMath") (string text)
event_data (Html text) = with_one (codes "Html") (string text)
event_data (InlineHtml text) = with_one (codes "InlineHtml") (string text)
event_data (FootnoteReference label) = with_one (codes "FootnoteReference") (string label)
event_data SoftBreak = alone (codes "SoftBreak")
event_data HardBreak = alone (codes "HardBreak")
event_data Rule = alone (codes "Rule")
event_data (TaskListMarker is_checked) = with_one (codes "TaskListMarker") (boolean is_checked)
