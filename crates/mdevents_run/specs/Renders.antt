-- The output for a text.
use Rattle.std.specs.Prelude.{◌≡◌, ℕ, false, List, [], map, Option, None, Ok}
use Rattle.std.specs.Iterator.{YieldsThen}
use Rattle.std.specs.declared.ops.Range.{Range}
use Rattle.cmark_grammar.specs.Answers.{Lookup}
use Rattle.cmark_grammar.specs.Event.{Ranged}
use Rattle.cmark_grammar.specs.Headline.{profile}
use Rattle.cmark_grammar.specs.Options.{Options}
use Rattle.cmark_grammar.specs.SpanDocuments.{IsReading}
use Rattle.cmark_inline.specs.declared.callback.BrokenLink.{BrokenLink}
use Rattle.cmark_inline.specs.declared.callback.DefaultBrokenLinkCallback.{DefaultBrokenLinkCallback}
use Rattle.cmark_json.specs.Lines.{lines}
use Rattle.cmark_text.specs.declared.event.Event.{Event}
use Rattle.cmark_values.specs.declared.text.CowStr.{CowStr}
use Rattle.cmark_parser.specs.declared.parse.OffsetIter.{OffsetIter}
use Rattle.cmark_parser.specs.Parsing.{GivesRanged, shown_item}

-- the output is a line for each event of the reading of the text, without a callback
pub record AreLinesOf (text : List ℕ) (options : Options) (lookup : Lookup) (output : List ℕ) : Type 0 where
  pub events : List Ranged
  pub reading : IsReading text (profile text options lookup false) [] events
  pub output_is : output ≡ lines events

-- the steps of a callback that is absent: it always returns None
abbrev pub says-nothing : DefaultBrokenLinkCallback → BrokenLink → Option (CowStr × CowStr) → DefaultBrokenLinkCallback → Type 0
says-nothing before link answer after = answer ≡ None

-- a walk without a callback gave all items that were left, and the output is a line for each
pub record AreLinesOfRest {E : Type 0} (replacement : E → Lookup) (old new : OffsetIter E DefaultBrokenLinkCallback) (output : List ℕ) : Type 0 where
  pub items : List (Event × Range ℕ)
  pub yields : YieldsThen (GivesRanged says-nothing replacement) old (map Ok items) None new
  pub output_is : output ≡ lines (map shown_item items)
