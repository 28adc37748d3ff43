-- The events whose safe form may take memory: those with an anchor or the name of a footnote, which get a prefix, and a code block whose
-- info string is a short owned text, which is copied.
use Rattle.std.specs.Prelude.{IsSome}
use Rattle.cmark_text.specs.declared.event.Event.{Event}
use Rattle.cmark_text.specs.declared.event.Event.TheVariants.{Start, FootnoteReference}
use Rattle.cmark_text.specs.declared.event.Tag.{Tag}
use Rattle.cmark_text.specs.declared.event.Tag.TheVariants.{CodeBlock, Heading, FootnoteDefinition}
use Rattle.cmark_values.specs.Shown.{IsInlined}
use Rattle.cmark_values.specs.declared.kind.CodeBlockKind.TheVariants.{Fenced}

abbrev pub TagNeedsMemory : Tag → Type 0
TagNeedsMemory (Heading level id classes attrs) = IsSome id
TagNeedsMemory (CodeBlock (Fenced info)) = IsInlined info
TagNeedsMemory (FootnoteDefinition label) = Unit {0}
TagNeedsMemory _ = ⊥

abbrev pub NeedsMemory : Event → Type 0
NeedsMemory (Start tag) = TagNeedsMemory tag
NeedsMemory (FootnoteReference label) = Unit {0}
NeedsMemory _ = ⊥
