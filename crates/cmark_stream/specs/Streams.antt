-- A text that grows, with its HTML.
use Rattle.std.specs.Prelude.{◌≡◌, ℕ, ◌-◌, ◌*◌, ◌≤◌, ◌<◌, false, List, [], ◌++◌, length, string_bytes, Option, None, Some, option_map, Result, Ok, Err}
use Rattle.std.specs.declared.alloc.AllocError.{AllocError}
use Rattle.cmark_block_model.specs.Tails.{document_after}
use Rattle.cmark_grammar.specs.Answers.{Lookup}
use Rattle.cmark_grammar.specs.Event.{Event, Ranged}
use Rattle.cmark_grammar.specs.Headline.{profile_within}
use Rattle.cmark_grammar.specs.Html.{pieces}
use Rattle.cmark_grammar.specs.Options.{Options}
use Rattle.cmark_grammar.specs.Questions.{Exchange}
use Rattle.cmark_grammar.specs.SpanDocuments.{IsReading, Profile}
use Rattle.cmark_inline_model.specs.Unanswered.{AreUnanswered}
use Rattle.cmark_parser.specs.Parsing.{Remains}
use Rattle.cmark_parser.specs.Rendering.{IsHtmlBy, filtered_of}
use Rattle.cmark_parser.specs.declared.parse.Parser.{Parser}
use Rattle.cmark_safe.specs.SafeEvents.{safe}
use Rattle.cmark_stream_model.specs.Undefined.{HasNoDefinitions}
use Rattle.cmark_values.specs.Shown.{shown_options}
use Rattle.cmark_stream.specs.Chunks.{BeginsCharacter, IsNeverUtf8}
use Rattle.cmark_stream.specs.Rests.{IsRestFrom, IsShownUpTo}
use Rattle.cmark_stream.specs.declared.fault.StreamFault.{StreamFault}
use Rattle.cmark_stream.specs.declared.fault.StreamFault.TheVariants.{NoMemory, NotUtf8}
use Rattle.cmark_stream.specs.declared.rest.Rest.{Rest}
use Rattle.cmark_stream.specs.declared.stream.Change.{Change}
use Rattle.cmark_stream.specs.declared.stream.Change.TheVariants.{Grown, Anew}
use Rattle.cmark_stream.specs.declared.stream.Stream.{Stream}

-- the events as they are or, with further schemes, in their safe forms
abbrev pub filter_for : (schemes : Option (List ℕ)) → Event → Event
filter_for None event = event
filter_for (Some further) event = safe further event

module _ {E : Type 0} where
  -- the text so far
  abbrev pub text_of : Stream E → List ℕ
  text_of stream = string_bytes stream.text

  -- the first bytes of a character that is not whole yet
  abbrev pub begun_of : Stream E → List ℕ
  begun_of stream = stream.begun.items

  -- all bytes that were pushed
  abbrev pub bytes_of : Stream E → List ℕ
  bytes_of stream = text_of stream ++ begun_of stream

  abbrev pub options_of : Stream E → Options
  options_of stream = shown_options stream.options

  -- the further schemes, if the HTML is safe
  abbrev pub schemes_of : Stream E → Option (List ℕ)
  schemes_of stream = option_map string_bytes stream.schemes

  abbrev pub filter_of : Stream E → Event → Event
  filter_of stream = filter_for (schemes_of stream)

  -- the HTML of the settled blocks, and that of the other blocks
  abbrev pub settled_of : Stream E → List ℕ
  settled_of stream = string_bytes stream.settled

  abbrev pub tail_of : Stream E → List ℕ
  tail_of stream = string_bytes stream.tail

  -- the text and the settings are the same
  pub record KeepsText (old new : Stream E) : Type 0 where
    pub text : text_of new ≡ text_of old
    pub begun : begun_of new ≡ begun_of old
    pub options : options_of new ≡ options_of old
    pub entities : new.entities.now ≡ old.entities.now
    pub limit : new.limit ≡ old.limit
    pub schemes : schemes_of new ≡ schemes_of old

-- Grown: the settled HTML begins with the earlier settled HTML. Anew: nothing is settled
abbrev pub Tells : Change → (earlier now : List ℕ) → Type 0
Tells Grown earlier now = (more : List ℕ) × (now ≡ earlier ++ more)
Tells Anew earlier now = now ≡ []

-- the part of the text after the cut has grown by more than a sixteenth, since the text had `read` bytes
abbrev pub IsDue : (cut read size : ℕ) → Type 0
IsDue cut read size = read - cut < 16 * (size - read)

-- `replacement` is the look-up that a value of E represents
module _ {E : Type 0} (replacement : E → Lookup) where
  abbrev pub lookup_of : Stream E → Lookup
  lookup_of stream = replacement stream.entities.now

  abbrev pub profile_of : Stream E → Profile
  profile_of stream = profile_within stream.limit (options_of stream) (lookup_of stream) false

  -- the settled HTML is that of the bytes before the cut, the last refresh read `read` bytes, and at most a part of a character is kept
  pub record IsStream (stream : Stream E) : Type 0 where
    pub shown : IsShownUpTo (profile_of stream) (filter_of stream) (text_of stream) stream.cut (settled_of stream)
    pub opened : stream.cut ≤ stream.read
    pub unread : stream.read ≤ length (text_of stream)
    pub begun : BeginsCharacter (begun_of stream)

  -- the empty text, with these settings
  pub record Begins (stream : Stream E) (settings : Options) (known : Lookup) (most : ℕ) (further : Option (List ℕ)) : Type 0 where
    pub text : text_of stream ≡ []
    pub begun : begun_of stream ≡ []
    pub settled : settled_of stream ≡ []
    pub tail : tail_of stream ≡ []
    pub options : options_of stream ≡ settings
    pub entities : lookup_of stream ≡ known
    pub limit : stream.limit ≡ most
    pub schemes : schemes_of stream ≡ further
    pub read : stream.read ≡ 0
    pub good : IsStream stream

  -- the HTML, the settings and the cut are the same; the text and the part of a character may differ
  pub record KeepsHtml (old new : Stream E) : Type 0 where
    pub settled : settled_of new ≡ settled_of old
    pub tail : tail_of new ≡ tail_of old
    pub options : options_of new ≡ options_of old
    pub entities : new.entities.now ≡ old.entities.now
    pub limit : new.limit ≡ old.limit
    pub schemes : schemes_of new ≡ schemes_of old
    pub cut : new.cut ≡ old.cut
    pub read : new.read ≡ old.read
    pub good : IsStream new

  -- bytes were appended to the text, and what is kept is the end of these bytes
  pub record Appended (old : Stream E) (bytes : List ℕ) (new : Stream E) : Type 0 where
    pub joined : bytes_of new ≡ text_of old ++ bytes
    pub keeps : KeepsHtml old new

  -- a fault that changed nothing
  pub record Unchanged (old new : Stream E) : Type 0 where
    pub text : text_of new ≡ text_of old
    pub begun : begun_of new ≡ begun_of old
    pub keeps : KeepsHtml old new

  abbrev pub Appends : (bytes : List ℕ) → Stream E → Result (Unit {0}) StreamFault → Stream E → Type 0
  Appends bytes old (Ok done) new = Appended old bytes new
  Appends bytes old (Err NoMemory) new = Unchanged old new
  Appends bytes old (Err NotUtf8) new = IsNeverUtf8 bytes × Unchanged old new

  -- the HTML from the cut on
  abbrev pub IsRest : Stream E → Rest → Type 0
  IsRest stream rest = IsRestFrom (filter_of stream) stream.limit (text_of stream) (options_of stream) (lookup_of stream) stream.cut (string_bytes rest.settled) (string_bytes rest.tail) rest.cut

  -- this is the HTML of the reading of the text
  abbrev pub IsShown : Stream E → (output : List ℕ) → Type 0
  IsShown stream output = IsHtmlBy stream.limit (filter_of stream) (text_of stream) (options_of stream) (lookup_of stream) output

  -- a refresh that did this: the text is the same, and has the HTML of its reading
  pub record Refreshed (old : Stream E) (change : Change) (new : Stream E) : Type 0 where
    pub keeps : KeepsText old new
    pub shown : IsShown old (settled_of new ++ tail_of new)
    pub tells : Tells change (settled_of old) (settled_of new)
    pub read : new.read ≡ length (text_of new)
    pub good : IsStream new

  -- a refresh for which memory was refused: the text and the HTML are the same
  pub record Refused (old new : Stream E) : Type 0 where
    pub text : KeepsText old new
    pub html : KeepsHtml old new

  abbrev pub Refreshes : Stream E → Result Change AllocError → Stream E → Type 0
  Refreshes old (Ok change) new = Refreshed old change new
  Refreshes old (Err e) new = Refused old new

module _ {E F : Type 0} (replacement : E → Lookup) where
  -- Of a parser of the lines after the cut, if no question is answered: if these lines define nothing, the events that the parser has left
  -- complete the reading of the text. The earlier events are those whose HTML is settled
  pub record Completes (stream : Stream E) (parser : Parser E F) : Type 0 where
    pub earlier : List Ranged
    pub settled_is : settled_of stream ≡ pieces (filtered_of (filter_of stream) earlier)
    pub reading : (exchanges : List Exchange) (events : List Ranged) → AreUnanswered exchanges → Remains replacement parser exchanges events
        → HasNoDefinitions (document_after (text_of stream) (options_of stream) (lookup_of replacement stream) stream.cut)
        → IsReading (text_of stream) (profile_of replacement stream) [] (earlier ++ events)
