-- The theorem in words: the output of the renderer is the HTML of the reading of the text. The written grammar gives each text exactly one
-- reading for each list of answers to its questions.
--
-- A reading is a list of events with their ranges. It depends on the text, the options, the entity names, the reference expansion limit and
-- the answers of the callback (`IsReading`). The HTML of events is `html`.
--
-- Example: of the text `*a* [b]` the output is `<p><em>a</em> [b]</p>` and a line feed, since no definition has the label `b`.
--
-- This file names nothing but the grammar. Every definition that the theorem rests on is imported from here.
use Rattle.std.specs.Prelude.{◌≡◌, ℕ, Bool, false, List, [], length, map, max}
use Rattle.cmark_grammar.specs.Answers.{Lookup}
use Rattle.cmark_grammar.specs.Event.{Event, Ranged}
use Rattle.cmark_grammar.specs.Html.{html}
use Rattle.cmark_grammar.specs.Options.{Options}
use Rattle.cmark_grammar.specs.SpanDocuments.{IsReading, Profile}

-- the conditions under which a text is read, with a limit for the bytes of the destinations and titles that references copy from definitions
abbrev pub profile_within : (limit : ℕ) → Options → Lookup → (has_callback : Bool) → Profile
profile_within limit options lookup has_callback = record { options = options; lookup = lookup; reference_expansion_limit = limit; has_callback = has_callback }

-- the limit if the caller sets none, as in the original: the length of the text, but at least 100,000
abbrev pub usual_limit : (text : List ℕ) → ℕ
usual_limit text = max (length text) 100000

abbrev pub profile : (text : List ℕ) → Options → Lookup → (has_callback : Bool) → Profile
profile text options lookup has_callback = profile_within (usual_limit text) options lookup has_callback

-- the events without their ranges
abbrev pub events_of : List Ranged → List Event
events_of rs = map (λ ranged. ranged.event) rs

-- the output is the HTML of the reading of the text within this limit, without a callback
pub record IsHtmlWithin (limit : ℕ) (text : List ℕ) (options : Options) (lookup : Lookup) (output : List ℕ) : Type 0 where
  pub events : List Ranged
  pub reading : IsReading text (profile_within limit options lookup false) [] events
  pub output_is : output ≡ html (events_of events)

-- the output is the HTML of the reading of the text within the usual limit, without a callback
abbrev pub IsHtmlOf : (text : List ℕ) → Options → Lookup → (output : List ℕ) → Type 0
IsHtmlOf text options lookup output = IsHtmlWithin (usual_limit text) text options lookup output
