-- The values of this crate as values of the grammar: a text by its bytes, a heading level by its number.
use Rattle.std.specs.Prelude.{ℕ, ◌==◌, Bool, List, map, Option, option_map}
use Rattle.std.specs.Box.{boxed_str_bytes}
use Rattle.std.specs.Int.RustNames.{bit_and}
use Rattle.cmark_grammar.specs.Alignment as alignment
use Rattle.cmark_grammar.specs.Attributes.{Attribute, Attributes}
use Rattle.cmark_grammar.specs.BlockQuoteKind as quote_kind
use Rattle.cmark_grammar.specs.CodeBlockKind as code_kind
use Rattle.cmark_grammar.specs.LinkType as link
use Rattle.cmark_grammar.specs.MetadataBlockKind as metadata
use Rattle.cmark_grammar.specs.Options as options
use Rattle.cmark_grammar.specs.Tag as tag
use Rattle.cmark_values.specs.declared.inline.InlineStr.{InlineStr}
use Rattle.cmark_values.specs.declared.text.CowStr.{CowStr}
use Rattle.cmark_values.specs.declared.text.CowStr.TheVariants.{Boxed, Borrowed, Inlined}
use Rattle.cmark_values.specs.declared.kind.Alignment.{Alignment}
use Rattle.cmark_values.specs.declared.kind.Alignment.TheVariants as declared_alignment
use Rattle.cmark_values.specs.declared.kind.BlockQuoteKind.{BlockQuoteKind}
use Rattle.cmark_values.specs.declared.kind.BlockQuoteKind.TheVariants.{Note, Tip, Important, Warning, Caution}
use Rattle.cmark_values.specs.declared.kind.MetadataBlockKind.{MetadataBlockKind}
use Rattle.cmark_values.specs.declared.kind.MetadataBlockKind.TheVariants.{YamlStyle, PlusesStyle}
use Rattle.cmark_values.specs.declared.kind.CodeBlockKind.{CodeBlockKind}
use Rattle.cmark_values.specs.declared.kind.CodeBlockKind.TheVariants.{Indented, Fenced}
use Rattle.cmark_values.specs.declared.kind.HeadingLevel.{HeadingLevel}
use Rattle.cmark_values.specs.declared.kind.HeadingLevel.TheVariants.{H1, H2, H3, H4, H5, H6}
use Rattle.cmark_values.specs.declared.kind.LinkType.{LinkType}
use Rattle.cmark_values.specs.declared.kind.LinkType.TheVariants as declared_link
use Rattle.cmark_values.specs.declared.options.Options.{Options}

abbrev pub inline_bytes : InlineStr → List ℕ
inline_bytes text = text.text.bytes

abbrev pub text_bytes : CowStr → List ℕ
text_bytes (Boxed text) = boxed_str_bytes text
text_bytes (Borrowed text) = text.now
text_bytes (Inlined text) = inline_bytes text

-- which of them holds the text
abbrev pub IsBoxed : CowStr → Type 0
IsBoxed (Boxed text) = Unit {0}
IsBoxed (Borrowed text) = ⊥
IsBoxed (Inlined text) = ⊥

abbrev pub IsInlined : CowStr → Type 0
IsInlined (Boxed text) = ⊥
IsInlined (Borrowed text) = ⊥
IsInlined (Inlined text) = Unit {0}

abbrev pub level_number : HeadingLevel → ℕ
level_number H1 = 1
level_number H2 = 2
level_number H3 = 3
level_number H4 = 4
level_number H5 = 5
level_number H6 = 6

abbrev pub shown_alignment : Alignment → alignment.Alignment
shown_alignment declared_alignment.None = alignment.Unaligned
shown_alignment declared_alignment.Left = alignment.Left
shown_alignment declared_alignment.Center = alignment.Center
shown_alignment declared_alignment.Right = alignment.Right

abbrev pub shown_block_quote_kind : BlockQuoteKind → quote_kind.BlockQuoteKind
shown_block_quote_kind Note = quote_kind.Note
shown_block_quote_kind Tip = quote_kind.Tip
shown_block_quote_kind Important = quote_kind.Important
shown_block_quote_kind Warning = quote_kind.Warning
shown_block_quote_kind Caution = quote_kind.Caution

abbrev pub shown_metadata_block_kind : MetadataBlockKind → metadata.MetadataBlockKind
shown_metadata_block_kind YamlStyle = metadata.YamlStyle
shown_metadata_block_kind PlusesStyle = metadata.PlusesStyle

abbrev pub shown_code_block_kind : CodeBlockKind → code_kind.CodeBlockKind
shown_code_block_kind Indented = code_kind.Indented
shown_code_block_kind (Fenced info) = code_kind.Fenced (text_bytes info)

abbrev pub shown_link_type : LinkType → link.LinkType
shown_link_type declared_link.Inline = link.Inline
shown_link_type declared_link.Reference = link.Reference
shown_link_type declared_link.ReferenceUnknown = link.ReferenceUnknown
shown_link_type declared_link.Collapsed = link.Collapsed
shown_link_type declared_link.CollapsedUnknown = link.CollapsedUnknown
shown_link_type declared_link.Shortcut = link.Shortcut
shown_link_type declared_link.ShortcutUnknown = link.ShortcutUnknown
shown_link_type declared_link.Autolink = link.Autolink
shown_link_type declared_link.Email = link.Email
shown_link_type (declared_link.WikiLink has_pothole) = link.WikiLink has_pothole

abbrev pub shown_attribute : CowStr × Option CowStr → Attribute
shown_attribute a = record { name = text_bytes a.0; value = option_map text_bytes a.1 }

abbrev pub shown_attributes : Option CowStr → List CowStr → List (CowStr × Option CowStr) → Attributes
shown_attributes id classes attrs = record { id = option_map text_bytes id; classes = map text_bytes classes; others = map shown_attribute attrs }

abbrev pub shown_linked : LinkType → CowStr → CowStr → CowStr → tag.Linked
shown_linked link_type dest_url title id = record { link_type = shown_link_type link_type; destination = text_bytes dest_url; title = text_bytes title; id = text_bytes id }

-- the set has all of these bits
abbrev pub has_bits : Options → ℕ → Bool
has_bits set bits = bit_and set.0 bits == bits

abbrev pub shown_options : Options → options.Options
shown_options set = record {
  tables = has_bits set 2;
  footnotes = has_bits set 4;
  strikethrough = has_bits set 8;
  tasklists = has_bits set 16;
  smart_punctuation = has_bits set 32;
  heading_attributes = has_bits set 64;
  yaml_style_metadata_blocks = has_bits set 128;
  pluses_delimited_metadata_blocks = has_bits set 256;
  old_footnotes = has_bits set 516;
  math = has_bits set 1024;
  gfm = has_bits set 2048;
  definition_list = has_bits set 4096;
  superscript = has_bits set 8192;
  subscript = has_bits set 16384;
  wikilinks = has_bits set 32768;
  highlight = has_bits set 65536;
  email_autolinks = has_bits set 131072;
}
