-- The outputs of the calls for flat records.
use Rattle.std.specs.Prelude.{◌≡◌, ◌≤◌, ◌≢◌, ℕ, false, List, [], Option, Some, None}
use Rattle.cmark_flat.specs.Flat.{flat}
use Rattle.cmark_flat.specs.Render.{rendered, safely_rendered}
use Rattle.cmark_grammar.specs.Answers.{Lookup}
use Rattle.cmark_grammar.specs.Event.{Ranged}
use Rattle.cmark_grammar.specs.Headline.{profile}
use Rattle.cmark_grammar.specs.Options.{Options}
use Rattle.cmark_grammar.specs.Questions.{Exchange}
use Rattle.cmark_grammar.specs.SpanDocuments.{IsReading}
use Rattle.cmark_inline.specs.declared.callback.BrokenLink.{BrokenLink}
use Rattle.cmark_inline.specs.declared.callback.DefaultBrokenLinkCallback.{DefaultBrokenLinkCallback}
use Rattle.cmark_parser.specs.declared.parse.OffsetIter.{OffsetIter}
use Rattle.cmark_parser.specs.Parsing.{AsksRanged, RemainsRanged}
use Rattle.cmark_safe.specs.SafeHtml.{IsSafe}
use Rattle.program_io.specs.Statuses.{IsTooLong, Refused, Wrote}
use Rattle.cmark_values.specs.declared.text.CowStr.{CowStr}

-- the output is the flat records of the reading of the text, without a callback
pub record AreFlatOf (text : List ℕ) (options : Options) (lookup : Lookup) (output : List ℕ) : Type 0 where
  pub events : List Ranged
  pub reading : IsReading text (profile text options lookup false) [] events
  pub output_is : output ≡ flat events

-- the steps of a callback that is absent: it always returns None
abbrev pub says-nothing : DefaultBrokenLinkCallback → BrokenLink → Option (CowStr × CowStr) → DefaultBrokenLinkCallback → Type 0
says-nothing before link answer after = answer ≡ None

-- a walk without a callback gave all events that were left, and the output is their flat records
pub record AreFlatOfRest {E : Type 0} (replacement : E → Lookup) (old new : OffsetIter E DefaultBrokenLinkCallback) (output : List ℕ) : Type 0 where
  pub exchanges : List Exchange
  pub events : List Ranged
  pub left : RemainsRanged replacement old exchanges events
  pub asks : AsksRanged says-nothing old exchanges new
  pub output_is : output ≡ flat events

-- the status, room and size after a call with these bytes; the output is the HTML of the events that they stand for
pub record RenderAnswers (records old new : List ℕ) (size status : ℕ) : Type 0 where
  pub is_status : (status ≤ 4) × (status ≢ 2)
  pub done : status ≡ 0 → Wrote (λ answer. rendered records ≡ Some answer) old new size
  pub too_long : status ≡ 1 → IsTooLong (λ answer. rendered records ≡ Some answer) old new size
  pub no_memory : status ≡ 3 → Refused old new size
  pub malformed : status ≡ 4 → (rendered records ≡ None) × Refused old new size

-- the output is safe, and is the HTML of the safe forms of the events that the bytes stand for
abbrev pub IsSafelyRendered : (further records answer : List ℕ) → Type 0
IsSafelyRendered further records answer = IsSafe further answer × (safely_rendered further records ≡ Some answer)

-- the meaning of the status of a call that renders records as safe HTML with these further schemes
pub record SafeRenderAnswers (further records old new : List ℕ) (size status : ℕ) : Type 0 where
  pub is_status : (status ≤ 4) × (status ≢ 2)
  pub done : status ≡ 0 → Wrote (IsSafelyRendered further records) old new size
  pub too_long : status ≡ 1 → IsTooLong (IsSafelyRendered further records) old new size
  pub no_memory : status ≡ 3 → Refused old new size
  pub malformed : status ≡ 4 → (safely_rendered further records ≡ None) × Refused old new size
