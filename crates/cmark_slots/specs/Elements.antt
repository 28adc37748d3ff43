-- The elements of emphasis.
use Rattle.std.specs.Prelude.{◌≡◌, Option, Some, None}
use Rattle.cmark_grammar.specs.Options.{Options}
use Rattle.cmark_grammar.specs.Spans.{SpanKind, span_tag}
use Rattle.cmark_grammar.specs.Tag.{Tag}
use Rattle.cmark_grammar.specs.Tag as tag
use Rattle.cmark_slots.specs.declared.slot.Element.{Element}
use Rattle.cmark_slots.specs.declared.slot.Element.TheVariants as element

-- the tag of an element of emphasis
abbrev pub emphasis_tag : Element → Tag
emphasis_tag element.Emphasis = tag.Emphasis
emphasis_tag element.Strong = tag.Strong
emphasis_tag element.Strikethrough = tag.Strikethrough
emphasis_tag element.Superscript = tag.Superscript
emphasis_tag element.Subscript = tag.Subscript
emphasis_tag element.Highlight = tag.Highlight

-- the element of a span, if it forms an element
abbrev pub IsElementOf : Options → SpanKind → Option Element → Type 0
IsElementOf options kind None = span_tag options kind ≡ None
IsElementOf options kind (Some element) = span_tag options kind ≡ Some (emphasis_tag element)
