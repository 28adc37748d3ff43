-- An event with its range as a value of the grammar, and its zero-copy law.
use Rattle.std.specs.Prelude.{ℕ, List}
use Rattle.cmark_grammar.specs.Event as event
use Rattle.cmark_text.specs.Shown.{shown}
use Rattle.cmark_text.specs.ZeroCopy.{IsZeroCopy}
use Rattle.cmark_text.specs.declared.ranged.Ranged.{Ranged}

abbrev pub shown_ranged : Ranged → event.Ranged
shown_ranged r = record { event = shown r.event; start = r.range.start; end = r.range.end }

-- the text of the event is borrowed as the zero-copy law says
abbrev pub IsRangedZeroCopy : (source : List ℕ) → Ranged → Type 0
IsRangedZeroCopy source r = IsZeroCopy source r.event r.range.start r.range.end
