-- Which texts, kinds, tags and events are copied, or made to borrow nothing, without memory.
use Rattle.std.specs.Prelude.{◌≡◌, length, IfSome}
use Rattle.cmark_text.specs.declared.event.Tag.{Tag}
use Rattle.cmark_text.specs.declared.event.Tag.TheVariants.{Heading, CodeBlock, FootnoteDefinition, Table, Link, Image}
use Rattle.cmark_text.specs.declared.event.Event.{Event}
use Rattle.cmark_text.specs.declared.event.Event.TheVariants.{Start, End, Text, Code, InlineMath, DisplayMath, Html, InlineHtml, FootnoteReference, SoftBreak, HardBreak, Rule, TaskListMarker}
use Rattle.cmark_values.specs.InPlace.{CopiesInPlace, KindCopiesInPlace, StaysInPlace, KindStaysInPlace}

abbrev pub TagCopiesInPlace : Tag → Type 0
TagCopiesInPlace (Heading level id classes attrs) = IfSome id CopiesInPlace × (length classes.items ≡ 0) × (length attrs.items ≡ 0)
TagCopiesInPlace (CodeBlock kind) = KindCopiesInPlace kind
TagCopiesInPlace (FootnoteDefinition label) = CopiesInPlace label
TagCopiesInPlace (Table alignments) = ⊥
TagCopiesInPlace (Link link_type dest_url title id) = CopiesInPlace dest_url × CopiesInPlace title × CopiesInPlace id
TagCopiesInPlace (Image link_type dest_url title id) = CopiesInPlace dest_url × CopiesInPlace title × CopiesInPlace id
TagCopiesInPlace _ = Unit {0}

abbrev pub EventCopiesInPlace : Event → Type 0
EventCopiesInPlace (Start tag) = TagCopiesInPlace tag
EventCopiesInPlace (End end) = Unit {0}
EventCopiesInPlace (Text text) = CopiesInPlace text
EventCopiesInPlace (Code text) = CopiesInPlace text
EventCopiesInPlace (InlineMath text) = CopiesInPlace text
EventCopiesInPlace (DisplayMath text) = CopiesInPlace text
EventCopiesInPlace (Html text) = CopiesInPlace text
EventCopiesInPlace (InlineHtml text) = CopiesInPlace text
EventCopiesInPlace (FootnoteReference label) = CopiesInPlace label
EventCopiesInPlace SoftBreak = Unit {0}
EventCopiesInPlace HardBreak = Unit {0}
EventCopiesInPlace Rule = Unit {0}
EventCopiesInPlace (TaskListMarker is_checked) = Unit {0}

abbrev pub TagStaysInPlace : Tag → Type 0
TagStaysInPlace (Heading level id classes attrs) = IfSome id StaysInPlace × (length classes.items ≡ 0) × (length attrs.items ≡ 0)
TagStaysInPlace (CodeBlock kind) = KindStaysInPlace kind
TagStaysInPlace (FootnoteDefinition label) = StaysInPlace label
TagStaysInPlace (Link link_type dest_url title id) = StaysInPlace dest_url × StaysInPlace title × StaysInPlace id
TagStaysInPlace (Image link_type dest_url title id) = StaysInPlace dest_url × StaysInPlace title × StaysInPlace id
TagStaysInPlace _ = Unit {0}

abbrev pub EventStaysInPlace : Event → Type 0
EventStaysInPlace (Start tag) = TagStaysInPlace tag
EventStaysInPlace (End end) = Unit {0}
EventStaysInPlace (Text text) = StaysInPlace text
EventStaysInPlace (Code text) = StaysInPlace text
EventStaysInPlace (InlineMath text) = StaysInPlace text
EventStaysInPlace (DisplayMath text) = StaysInPlace text
EventStaysInPlace (Html text) = StaysInPlace text
EventStaysInPlace (InlineHtml text) = StaysInPlace text
EventStaysInPlace (FootnoteReference label) = StaysInPlace label
EventStaysInPlace SoftBreak = Unit {0}
EventStaysInPlace HardBreak = Unit {0}
EventStaysInPlace Rule = Unit {0}
EventStaysInPlace (TaskListMarker is_checked) = Unit {0}
