-- The records that bytes stand for, and the events that records stand for. Other bytes and other records stand for nothing (None).
use Rattle.std.specs.Prelude.{ℕ, zero, suc, Bool, true, false, ◌==◌, ◌&&◌, not, nat_lt, if◌then◌else◌, List, [], ◌∷◌, length, take, drop, Option, Some, None}
use Rattle.std.specs.Int.{w64, from_le_bytes}
use Rattle.std.specs.Str.{is_utf8}
use Rattle.cmark_grammar.specs.Alignment.{Alignment, Unaligned, Left, Center, Right}
use Rattle.cmark_grammar.specs.Attributes.{Attribute, Attributes}
use Rattle.cmark_grammar.specs.BlockQuoteKind.{BlockQuoteKind, Note, Tip, Important, Warning, Caution}
use Rattle.cmark_grammar.specs.CodeBlockKind.{CodeBlockKind, Indented, Fenced}
use Rattle.cmark_grammar.specs.Event.{Event, Ranged, Start, End, Text, Code, InlineMath, DisplayMath, Html, InlineHtml, FootnoteReference, SoftBreak, HardBreak, Rule, TaskListMarker}
use Rattle.cmark_grammar.specs.LinkType.{LinkType, Inline, Reference, ReferenceUnknown, Collapsed, CollapsedUnknown, Shortcut, ShortcutUnknown, Autolink, Email, WikiLink}
use Rattle.cmark_grammar.specs.MetadataBlockKind.{MetadataBlockKind, YamlStyle, PlusesStyle}
use Rattle.cmark_grammar.specs.Tag as tag
use Rattle.cmark_grammar.specs.Tag.{Tag, Linked}
use Rattle.cmark_grammar.specs.TagEnd as end
use Rattle.cmark_grammar.specs.TagEnd.{TagEnd}
use Rattle.cmark_flat.specs.Numbers as number
use Rattle.cmark_flat.specs.Records.{FlatRecord}

-- f of the value, if there is one
infixl 10 ◌>>=◌
abbrev pub ◌>>=◌ : {A B : Type 0} → Option A → (A → Option B) → Option B
None >>= f = None
(Some x) >>= f = f x

-- x, if the test holds
abbrev pub some_if : {A : Type 0} → Bool → A → Option A
some_if true x = Some x
some_if false x = None

abbrev pub is_empty : {A : Type 0} → List A → Bool
is_empty xs = length xs == 0

-- f of each element, if f has a value for all of them
abbrev pub each : {A B : Type 0} → (A → Option B) → List A → Option (List B)
each f [] = Some []
each f (x ∷ xs) = f x >>= λ y. each f xs >>= λ ys. Some (y ∷ ys)

-- ---- records

-- a field, and the bytes after it
abbrev pub byte_at : List ℕ → Option (ℕ × List ℕ)
byte_at [] = None
byte_at (b ∷ bytes) = Some (b, bytes)

-- a byte of the head that has no meaning is 0
abbrev pub zero_at : List ℕ → Option (List ℕ)
zero_at [] = None
zero_at (zero ∷ bytes) = Some bytes
zero_at (suc b ∷ bytes) = None

unfoldable pub unused_at : List ℕ → Option (List ℕ)
unused_at bytes = do
  first ← zero_at bytes
  second ← zero_at first
  third ← zero_at second
  fourth ← zero_at third
  zero_at fourth

abbrev pub wide_at : List ℕ → Option (ℕ × List ℕ)
wide_at bytes = if nat_lt (length bytes) 8 then None else Some (from_le_bytes w64 (take 8 bytes), drop 8 bytes)

-- a text of this many bytes
abbrev pub text_at : ℕ → List ℕ → Option (List ℕ × List ℕ)
text_at size bytes = if nat_lt (length bytes) size then None else some_if (is_utf8 (take size bytes)) (take size bytes, drop size bytes)

unfoldable pub record_at : List ℕ → Option (FlatRecord × List ℕ)
record_at bytes = do
  kind ← byte_at bytes
  tag ← byte_at kind.1
  datum ← byte_at tag.1
  range ← unused_at datum.1
  start ← wide_at range
  end ← wide_at start.1
  size ← wide_at end.1
  text ← text_at size.0 size.1
  Some (record { kind = kind.0; tag = tag.0; datum = datum.0; start = start.0; end = end.0; text = text.0 }, text.1)

-- all of the bytes, with this many records at most
unfoldable pub records_within : ℕ → List ℕ → Option (List FlatRecord)
records_within most [] = Some []
records_within zero (b ∷ bytes) = None
records_within (suc most) (b ∷ bytes) = do
  first ← record_at (b ∷ bytes)
  others ← records_within most first.1
  Some (first.0 ∷ others)

-- no record is empty, so there are no more records than bytes
abbrev pub records_of : List ℕ → Option (List FlatRecord)
records_of bytes = records_within (length bytes) bytes

-- ---- numbers

abbrev pub flag_of : ℕ → Option Bool
flag_of n = if n == number.no then Some false else if n == number.yes then Some true else None

-- a level is 1 to 6
abbrev pub level_of : ℕ → Option ℕ
level_of n = some_if (nat_lt 0 n && nat_lt n 7) n

abbrev pub alignment_of : ℕ → Option Alignment
alignment_of n =
    if n == number.unaligned_column then Some Unaligned
    else if n == number.left_column then Some Left
    else if n == number.center_column then Some Center
    else if n == number.right_column then Some Right
    else None

abbrev pub quote_of : ℕ → Option (Option BlockQuoteKind)
quote_of n =
    if n == number.no_alert_quote then Some None
    else if n == number.note_quote then Some (Some Note)
    else if n == number.tip_quote then Some (Some Tip)
    else if n == number.important_quote then Some (Some Important)
    else if n == number.warning_quote then Some (Some Warning)
    else if n == number.caution_quote then Some (Some Caution)
    else None

abbrev pub metadata_of : ℕ → Option MetadataBlockKind
metadata_of n = if n == number.yaml_metadata then Some YamlStyle else if n == number.pluses_metadata then Some PlusesStyle else None

abbrev pub link_of : ℕ → Option LinkType
link_of n =
    if n == number.inline_link then Some Inline
    else if n == number.reference_link then Some Reference
    else if n == number.reference_unknown_link then Some ReferenceUnknown
    else if n == number.collapsed_link then Some Collapsed
    else if n == number.collapsed_unknown_link then Some CollapsedUnknown
    else if n == number.shortcut_link then Some Shortcut
    else if n == number.shortcut_unknown_link then Some ShortcutUnknown
    else if n == number.autolink_link then Some Autolink
    else if n == number.email_link then Some Email
    else if n == number.wikilink_link then Some (WikiLink false)
    else if n == number.wikilink_with_pothole_link then Some (WikiLink true)
    else None

-- the elements that have nothing but their tag
abbrev pub plain_tag : ℕ → Option Tag
plain_tag n =
    if n == number.paragraph_tag then Some tag.Paragraph
    else if n == number.html_block_tag then Some tag.HtmlBlock
    else if n == number.item_tag then Some tag.ListItem
    else if n == number.definition_list_tag then Some tag.DefinitionList
    else if n == number.definition_list_title_tag then Some tag.DefinitionListTitle
    else if n == number.definition_list_definition_tag then Some tag.DefinitionListDefinition
    else if n == number.table_head_tag then Some tag.TableHead
    else if n == number.table_row_tag then Some tag.TableRow
    else if n == number.table_cell_tag then Some tag.TableCell
    else if n == number.emphasis_tag then Some tag.Emphasis
    else if n == number.strong_tag then Some tag.Strong
    else if n == number.strikethrough_tag then Some tag.Strikethrough
    else if n == number.superscript_tag then Some tag.Superscript
    else if n == number.subscript_tag then Some tag.Subscript
    else if n == number.highlight_tag then Some tag.Highlight
    else None

-- the ends that have nothing but their tag
abbrev pub plain_end : ℕ → Option TagEnd
plain_end n =
    if n == number.paragraph_tag then Some end.Paragraph
    else if n == number.code_block_tag then Some end.CodeBlock
    else if n == number.html_block_tag then Some end.HtmlBlock
    else if n == number.item_tag then Some end.ListItem
    else if n == number.footnote_definition_tag then Some end.FootnoteDefinition
    else if n == number.definition_list_tag then Some end.DefinitionList
    else if n == number.definition_list_title_tag then Some end.DefinitionListTitle
    else if n == number.definition_list_definition_tag then Some end.DefinitionListDefinition
    else if n == number.table_tag then Some end.Table
    else if n == number.table_head_tag then Some end.TableHead
    else if n == number.table_row_tag then Some end.TableRow
    else if n == number.table_cell_tag then Some end.TableCell
    else if n == number.emphasis_tag then Some end.Emphasis
    else if n == number.strong_tag then Some end.Strong
    else if n == number.strikethrough_tag then Some end.Strikethrough
    else if n == number.superscript_tag then Some end.Superscript
    else if n == number.subscript_tag then Some end.Subscript
    else if n == number.highlight_tag then Some end.Highlight
    else if n == number.link_tag then Some end.Link
    else if n == number.image_tag then Some end.Image
    else None

-- ---- further records

-- a further record has no data, and a range only if it has a number
abbrev pub is_further : FlatRecord → Bool
is_further r = r.kind == number.further_kind

-- the text of a further record of this kind
abbrev pub part_text : ℕ → FlatRecord → Option (List ℕ)
part_text kind r = some_if (r.tag == kind && (r.datum == number.no_data && (r.start == 0 && r.end == 0))) r.text

-- the value of an attribute, if it has one
abbrev pub value_of : FlatRecord → Option (Option (List ℕ))
value_of r =
    if r.tag == number.no_value_part then (part_text number.no_value_part r >>= λ text. some_if (is_empty text) None)
    else part_text number.value_part r >>= λ text. Some (Some text)

abbrev pub attribute_of : (name value : FlatRecord) → Option Attribute
attribute_of name value = do
  called ← part_text number.attribute_part name
  has ← value_of value
  Some (record { name = called; value = has })

-- the attribute of the two further records that come first
abbrev pub attribute_at : List FlatRecord → Option Attribute
attribute_at [] = None
attribute_at (name ∷ []) = None
attribute_at (name ∷ value ∷ parts) = attribute_of name value

-- each attribute has a name and a value
abbrev pub attributes_of : List FlatRecord → Option (List Attribute)
attributes_of [] = Some []
attributes_of (name ∷ []) = None
attributes_of (name ∷ value ∷ parts) = attribute_of name value >>= λ first. attributes_of parts >>= λ others. Some (first ∷ others)

-- the classes that come first, and the records after them
abbrev pub classes_at : List FlatRecord → Option (List (List ℕ) × List FlatRecord)
classes_at [] = Some ([], [])
classes_at (r ∷ parts) =
    if r.tag == number.class_part
    then (part_text number.class_part r >>= λ first. classes_at parts >>= λ others. Some (first ∷ others.0, others.1))
    else Some ([], r ∷ parts)

-- an id that comes first, and the records after it
abbrev pub id_at : List FlatRecord → Option (Option (List ℕ) × List FlatRecord)
id_at [] = Some (None, [])
id_at (r ∷ parts) =
    if r.tag == number.heading_id_part
    then (part_text number.heading_id_part r >>= λ id. Some (Some id, parts))
    else Some (None, r ∷ parts)

abbrev pub heading_parts_of : List FlatRecord → Option Attributes
heading_parts_of parts = do
  id ← id_at parts
  classes ← classes_at id.1
  others ← attributes_of classes.1
  Some (record { id = id.0; classes = classes.0; others = others })

-- the first number of an ordered list
abbrev pub first_of : FlatRecord → Option ℕ
first_of r = some_if (r.tag == number.first_number_part && (r.datum == number.no_data && (r.end == 0 && is_empty r.text))) r.start

-- ---- events

abbrev pub heading_of : FlatRecord → List FlatRecord → Option Tag
heading_of r parts = do
  level ← some_if (is_empty r.text) r.datum >>= level_of
  attributes ← heading_parts_of parts
  Some (tag.Heading level attributes)

abbrev pub list_of : FlatRecord → List FlatRecord → Option Tag
list_of r [] = some_if (r.datum == number.no && is_empty r.text) (tag.Listing None)
list_of r (first ∷ []) = if r.datum == number.yes && is_empty r.text then (first_of first >>= λ n. Some (tag.Listing (Some n))) else None
list_of r (first ∷ second ∷ parts) = None

abbrev pub linked_of : FlatRecord → List FlatRecord → Option Linked
linked_of r [] = None
linked_of r (title ∷ []) = None
linked_of r (title ∷ label ∷ []) = do
  link_type ← link_of r.datum
  called ← part_text number.title_part title
  id ← part_text number.label_part label
  Some (record { link_type = link_type; destination = r.text; title = called; id = id })
linked_of r (title ∷ label ∷ (third ∷ parts)) = None

abbrev pub code_of : FlatRecord → Option CodeBlockKind
code_of r =
    if r.datum == number.fenced_block then Some (Fenced r.text)
    else some_if (r.datum == number.indented_block && is_empty r.text) Indented

-- an element without a text
abbrev pub bare_tag : FlatRecord → Option Tag
bare_tag r =
    if r.tag == number.block_quote_tag then (quote_of r.datum >>= λ kind. Some (tag.BlockQuote kind))
    else if r.tag == number.metadata_block_tag then (metadata_of r.datum >>= λ kind. Some (tag.MetadataBlock kind))
    else if r.datum == number.no_data then plain_tag r.tag
    else None

abbrev pub table_of : FlatRecord → Option Tag
table_of r = if r.datum == number.no_data then (each alignment_of r.text >>= λ columns. Some (tag.Table columns)) else None

-- an element without further records that is no table
abbrev pub block_of : FlatRecord → Option Tag
block_of r =
    if r.tag == number.code_block_tag then (code_of r >>= λ kind. Some (tag.CodeBlock kind))
    else if r.tag == number.footnote_definition_tag then some_if (r.datum == number.no_data) (tag.FootnoteDefinition r.text)
    else if is_empty r.text then bare_tag r
    else None

-- an element without further records
abbrev pub lone_tag : FlatRecord → Option Tag
lone_tag r = if r.tag == number.table_tag then table_of r else block_of r

abbrev pub link_tag_of : FlatRecord → List FlatRecord → Option Tag
link_tag_of r parts = linked_of r parts >>= λ linked. Some (tag.Link linked)

abbrev pub image_tag_of : FlatRecord → List FlatRecord → Option Tag
image_tag_of r parts = linked_of r parts >>= λ linked. Some (tag.Image linked)

abbrev pub tag_of : FlatRecord → List FlatRecord → Option Tag
tag_of r parts =
    if r.tag == number.heading_tag then heading_of r parts
    else if r.tag == number.list_tag then list_of r parts
    else if r.tag == number.link_tag then link_tag_of r parts
    else if r.tag == number.image_tag then image_tag_of r parts
    else if is_empty parts then lone_tag r
    else None

abbrev pub end_of : FlatRecord → Option TagEnd
end_of r =
    if not (is_empty r.text) then None
    else if r.tag == number.heading_tag then (level_of r.datum >>= λ level. Some (end.Heading level))
    else if r.tag == number.block_quote_tag then (quote_of r.datum >>= λ kind. Some (end.BlockQuote kind))
    else if r.tag == number.list_tag then (flag_of r.datum >>= λ is_ordered. Some (end.Listing is_ordered))
    else if r.tag == number.metadata_block_tag then (metadata_of r.datum >>= λ kind. Some (end.MetadataBlock kind))
    else if r.datum == number.no_data then plain_end r.tag
    else None

-- the events that have nothing but their kind
abbrev pub mark_of : ℕ → Option Event
mark_of kind =
    if kind == number.soft_break_kind then Some SoftBreak
    else if kind == number.hard_break_kind then Some HardBreak
    else if kind == number.rule_kind then Some Rule
    else None

-- the events that have no data: a text alone, or nothing
abbrev pub text_of : FlatRecord → Option Event
text_of r =
    if r.kind == number.text_kind then Some (Text r.text)
    else if r.kind == number.code_kind then Some (Code r.text)
    else if r.kind == number.inline_math_kind then Some (InlineMath r.text)
    else if r.kind == number.display_math_kind then Some (DisplayMath r.text)
    else if r.kind == number.html_kind then Some (Html r.text)
    else if r.kind == number.inline_html_kind then Some (InlineHtml r.text)
    else if r.kind == number.footnote_reference_kind then Some (FootnoteReference r.text)
    else if is_empty r.text then mark_of r.kind
    else None

abbrev pub checkbox_of : FlatRecord → Option Event
checkbox_of r = if is_empty r.text then (flag_of r.datum >>= λ is_checked. Some (TaskListMarker is_checked)) else None

-- an event without a tag
abbrev pub untagged : FlatRecord → Option Event
untagged r =
    if r.kind == number.task_list_marker_kind then checkbox_of r
    else if r.datum == number.no_data then text_of r
    else None

-- an event without further records that is no start
abbrev pub lone_event : FlatRecord → Option Event
lone_event r =
    if r.kind == number.end_kind then (end_of r >>= λ e. Some (End e))
    else if r.tag == number.no_tag then untagged r
    else None

-- an event that is no start
abbrev pub plain_event : FlatRecord → List FlatRecord → Option Event
plain_event r parts = if is_empty parts then lone_event r else None

-- the event of a record and its further records
abbrev pub event_of : FlatRecord → List FlatRecord → Option Event
event_of r parts = if r.kind == number.start_kind then (tag_of r parts >>= λ t. Some (Start t)) else plain_event r parts

-- a record with its further records
pub record Group : Type 0 where
  pub own : FlatRecord
  pub parts : List FlatRecord

abbrev pub ranged_of : Group → Option Ranged
ranged_of g = event_of g.own g.parts >>= λ event. Some (record { event = event; start = g.own.start; end = g.own.end })

-- the further records that come first
abbrev pub parts_at : List FlatRecord → List FlatRecord
parts_at [] = []
parts_at (r ∷ rs) = if is_further r then r ∷ parts_at rs else []

-- the groups after the further records that come first
abbrev pub later : List FlatRecord → List Group
later [] = []
later (r ∷ rs) = if is_further r then later rs else record { own = r; parts = parts_at rs } ∷ later rs

-- each record that is not a further one, and the first record in any case, with the further records after it
abbrev pub groups : List FlatRecord → List Group
groups [] = []
groups (r ∷ rs) = record { own = r; parts = parts_at rs } ∷ later rs

-- f of the first group, if there is one
abbrev pub first_by : {B : Type 0} → (Group → Option B) → List FlatRecord → Option B
first_by f [] = None
first_by f (r ∷ rs) = f (record { own = r; parts = parts_at rs })

-- the event of the first group
abbrev pub ranged_at : List FlatRecord → Option Ranged
ranged_at rs = first_by ranged_of rs

-- the events that bytes stand for
abbrev pub decode : List ℕ → Option (List Ranged)
decode bytes = records_of bytes >>= λ rs. each ranged_of (groups rs)
