-- The zero-copy law: which texts of events are borrowed. It is a law about an event and its range, so that whoever has both and the parsed
-- text can check it.
use Rattle.std.specs.Prelude.{ℕ, List}
use Rattle.cmark_grammar.specs.Tokens.{slice}
use Rattle.cmark_text.specs.declared.event.Event.{Event}
use Rattle.cmark_text.specs.declared.event.Event.TheVariants as event
use Rattle.cmark_values.specs.Lending.{IsLentBy, IsPartIfBorrowed}

-- Texts and HTML are borrowed exactly if they are the bytes of their range: nothing is copied without need, and nothing else is borrowed.
-- Code and formulas are borrowed only if they are a part of the source, because their range includes the backticks and the dollar signs
abbrev pub IsZeroCopy : (source : List ℕ) → Event → (start end : ℕ) → Type 0
IsZeroCopy source (event.Text text) start end = IsLentBy (slice source start end) text
IsZeroCopy source (event.Html text) start end = IsLentBy (slice source start end) text
IsZeroCopy source (event.InlineHtml text) start end = IsLentBy (slice source start end) text
IsZeroCopy source (event.Code text) start end = IsPartIfBorrowed source text
IsZeroCopy source (event.InlineMath text) start end = IsPartIfBorrowed source text
IsZeroCopy source (event.DisplayMath text) start end = IsPartIfBorrowed source text
IsZeroCopy source _ start end = Unit {0}
