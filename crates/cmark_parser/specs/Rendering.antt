-- The HTML of a text.
use Rattle.std.specs.Prelude.{◌≡◌, ◌<◌, ℕ, Bool, true, false, List, [], ◌++◌, map, Option, None, Some, Ok}
use Rattle.cmark_grammar.specs.Answers.{Lookup}
use Rattle.cmark_grammar.specs.Event.{Event, Ranged}
use Rattle.cmark_grammar.specs.Headline.{events_of, profile, profile_within}
use Rattle.cmark_grammar.specs.Html.{Writing, html, last_piece, moved, moved_all, piece, pieces_from}
use Rattle.cmark_grammar.specs.Options.{Options}
use Rattle.cmark_grammar.specs.Questions.{Exchange}
use Rattle.cmark_grammar.specs.SpanDocuments.{IsReading}
use Rattle.cmark_grammar.specs.Tag.{Linked}
use Rattle.cmark_inline.specs.declared.callback.BrokenLink.{BrokenLink}
use Rattle.cmark_safe.specs.SafeEvents.{safe}
use Rattle.cmark_text.specs.Shown.{shown}
use Rattle.cmark_values.specs.declared.text.CowStr.{CowStr}
use Rattle.cmark_text.specs.declared.ranged.Ranged.{Ranged as Given}
use Rattle.cmark_parser.specs.declared.parse.Parser.{Parser}
use Rattle.cmark_parser.specs.Parsing.{Asks, CanGo, GivesStep, Passes, Remains, events_left}

-- the output is the HTML of the safe forms of the events of the text's reading, with these further schemes
pub record IsSafeHtmlOf (text : List ℕ) (options : Options) (lookup : Lookup) (further output : List ℕ) : Type 0 where
  pub events : List Ranged
  pub reading : IsReading text (profile text options lookup false) [] events
  pub output_is : output ≡ html (map (safe further) (events_of events))

-- these events without their ranges, each replaced by the filter
abbrev pub filtered_of : (filtered : Event → Event) → List Ranged → List Event
filtered_of filtered rs = map (λ ranged. filtered ranged.event) rs

-- the output is the HTML of the text's reading within this limit, each event replaced by the filter
pub record IsHtmlBy (limit : ℕ) (filtered : Event → Event) (text : List ℕ) (options : Options) (lookup : Lookup) (output : List ℕ) : Type 0 where
  pub events : List Ranged
  pub reading : IsReading text (profile_within limit options lookup false) [] events
  pub output_is : output ≡ html (filtered_of filtered events)

-- the link with another destination
abbrev pub leads_to : List ℕ → Linked → Linked
leads_to destination link = record { link_type = link.link_type; destination = destination; title = link.title; id = link.id }

-- the state of a writer, and all bytes that were written
pub record Written : Type 0 where
  pub writing : Writing
  pub bytes : List ℕ

abbrev pub written : Writing → List ℕ → Written
written writing bytes = record { writing = writing; bytes = bytes }

module _ {E F : Type 0} (Says : F → BrokenLink → Option (CowStr × CowStr) → F → Type 0) (replacement : E → Lookup) (filtered : Event → Event) where
  -- the first of the events that were left was returned, and the piece of its replacement was appended
  pub record WritesEvent (old : Parser E F) (before : Written) (new : Parser E F) (after : Written) : Type 0 where
    pub given : Given
    pub gives : GivesStep Says replacement old (Some (Ok given)) new
    pub bytes : after.bytes ≡ before.bytes ++ piece before.writing (filtered (shown given.event))
    pub writing : after.writing ≡ moved before.writing (filtered (shown given.event))

  -- all events that were left were returned, with the questions that were asked, and the pieces of their replacements were appended
  pub record WritesRest (old : Parser E F) (before : Written) (new : Parser E F) (after : Written) : Type 0 where
    pub exchanges : List Exchange
    pub events : List Ranged
    pub left : Remains replacement old exchanges events
    pub asks : Asks Says old exchanges new
    pub bytes : after.bytes ≡ before.bytes ++ (pieces_from before.writing (filtered_of filtered events) ++ last_piece after.writing.image)
    pub writing : after.writing ≡ moved_all before.writing (filtered_of filtered events)

  -- the HTML of all events that were left was appended to the old bytes, with the questions that were asked
  pub record IsHtmlOfRest (old new : Parser E F) (before after : List ℕ) : Type 0 where
    pub exchanges : List Exchange
    pub events : List Ranged
    pub left : Remains replacement old exchanges events
    pub asks : Asks Says old exchanges new
    pub bytes : after ≡ before ++ html (filtered_of filtered events)

  -- these events were returned, and the pieces of their replacements were appended
  pub record WritesSome (old : Parser E F) (before : Written) (new : Parser E F) (after : Written) : Type 0 where
    pub given : List Ranged
    pub passes : Passes Says replacement given old new
    pub bytes : after.bytes ≡ before.bytes ++ pieces_from before.writing (filtered_of filtered given)
    pub writing : after.writing ≡ moved_all before.writing (filtered_of filtered given)
    pub can : CanGo replacement new

  -- some events were returned, and the pieces of their replacements were appended. Fewer events are left, and no image is open
  pub record WritesWhole (old : Parser E F) (before : Written) (new : Parser E F) (after : Written) : Type 0 where
    pub some : WritesSome old before new after
    pub closed : after.writing.image ≡ None
    pub fewer : events_left new < events_left old

  -- all events that were left were returned, and the pieces of their replacements were appended
  pub record WritesLast (old : Parser E F) (before : Written) (new : Parser E F) (after : Written) : Type 0 where
    pub last : Parser E F
    pub some : WritesSome old before last after
    pub taken : List Exchange
    pub asks : Asks Says last taken new
    pub none : Remains replacement last taken []

  -- events were returned up to one after which no image is open, or all events that were left
  abbrev pub WritesLong : (is_given : Bool) → Parser E F → Written → Parser E F → Written → Type 0
  WritesLong true old before new after = WritesWhole old before new after
  WritesLong false old before new after = WritesLast old before new after

  -- the first event was returned, and its piece was appended; or no event was left, and nothing was appended
  abbrev pub WritesNext : (is_given : Bool) → Parser E F → Written → Parser E F → Written → Type 0
  WritesNext true old before new after = WritesEvent old before new after
  WritesNext false old before new after = GivesStep Says replacement old None new × (after ≡ before)

  -- the start of a link was returned, and its piece was appended; or nothing was returned and nothing was appended
  abbrev pub WritesLink : (is_written : Bool) → Parser E F → Written → Parser E F → Written → Type 0
  WritesLink true old before new after = WritesWhole old before new after
  WritesLink false old before new after = (new ≡ old) × (after ≡ before)
