-- The events that a parser has left, and the definitions of links and of footnotes that it found.
use Rattle.std.specs.Prelude.{◌≡◌, ◌<◌, ◌≤◌, ℕ, suc, Bool, true, false, if◌then◌else◌, List, [], ◌∷◌, ◌++◌, OnSome, is_some, IfSome, Option, None, Some, Result, Ok, Err, length}
use Rattle.std.specs.Option.{ForSome}
use Rattle.std.specs.declared.alloc.AllocError.{AllocError}
use Rattle.std.specs.declared.ops.Range.{Range}
use Rattle.cmark_blocks.specs.Footnotes.{HasLabels}
use Rattle.cmark_grammar.specs.Answers.{Lookup}
use Rattle.cmark_grammar.specs.BlockDocument.{BlockDocument}
use Rattle.cmark_grammar.specs.Derivation.{Derives}
use Rattle.cmark_grammar.specs.Event.{Ranged, Start}
use Rattle.cmark_grammar.specs.Headline.{usual_limit}
use Rattle.cmark_grammar.specs.Labels.{fold}
use Rattle.cmark_inline_model.specs.LeafSpans.{IsRange}
use Rattle.cmark_inline_model.specs.PlainLines.{joined_lines, line_events}
use Rattle.cmark_grammar.specs.Options.{Options}
use Rattle.cmark_grammar.specs.Questions.{Exchange}
use Rattle.cmark_grammar.specs.Readers.{Reader}
use Rattle.cmark_grammar.specs.References.{first_with, references}
use Rattle.cmark_grammar.specs.SpanDocuments.{footnote_labels}
use Rattle.cmark_grammar.specs.Tag as tag
use Rattle.cmark_grammar.specs.Tag.{Linked}
use Rattle.cmark_inline.specs.Footnoted.{SameFootnotes}
use Rattle.cmark_inline.specs.Resolved.{Answered}
use Rattle.cmark_inline.specs.declared.callback.BrokenLink.{BrokenLink}
use Rattle.cmark_inline.specs.declared.steps.Steps.{Steps}
use Rattle.cmark_references.specs.Definitions.{reference_at}
use Rattle.cmark_references.specs.Footnotes.{footnote}
use Rattle.cmark_references.specs.Links.{shown_link}
use Rattle.cmark_references.specs.declared.link.Link.{Link}
use Rattle.cmark_references.specs.declared.definitions.RefDefs.{RefDefs}
use Rattle.cmark_references.specs.declared.footnotes.FootnoteDefs.{FootnoteDefs}
use Rattle.cmark_event_walk.specs.Callback.{AnswersIfAny}
use Rattle.cmark_event_walk.specs.Walking as walking
use Rattle.cmark_event_walk.specs.declared.walk_step.WalkStep.{WalkStep}
use Rattle.cmark_event_walk.specs.declared.walk_step.WalkStep.TheVariants as coming
use Rattle.cmark_text.specs.declared.event.Event.{Event}
use Rattle.cmark_text.specs.declared.short.Step.{Step}
use Rattle.cmark_text.specs.declared.short.Step.TheVariants as next
use Rattle.cmark_text.specs.declared.short.Short.{Short}
use Rattle.cmark_text.specs.declared.short.Short.TheVariants as short
use Rattle.cmark_text.specs.Short.{IsShortZeroCopy, ranged_short}
use Rattle.cmark_text.specs.Excerpt.{excerpt_bytes}
use Rattle.cmark_text.specs.Shown.{shown}
use Rattle.cmark_text.specs.ZeroCopy.{IsZeroCopy}
use Rattle.cmark_values.specs.declared.text.CowStr.{CowStr}
use Rattle.cmark_text.specs.declared.ranged.Ranged.{Ranged as Given}
use Rattle.cmark_text.specs.Ranged.{shown_ranged}
use Rattle.cmark_parser.specs.declared.parse.Parser.{Parser}
use Rattle.cmark_parser.specs.declared.parse.OffsetIter.{OffsetIter}
use Rattle.cmark_parser.specs.Walking.{GoesOn, GivesNext, NoEndIsNext, ReadsFrom}

-- an item is the event of `r`. The range of `r` is in the text and cuts no character, and the event keeps the zero-copy law over this range
pub record Shows (text : List ℕ) (event : Event) (r : Ranged) : Type 0 where
  pub is : shown event ≡ r.event
  pub range : IsRange text r.start r.end
  pub lent : IsZeroCopy text event r.start r.end

pub record ShowsStep (text : List ℕ) (given : Given) (r : Ranged) : Type 0 where
  pub is : shown_ranged given ≡ r
  pub range : IsRange text r.start r.end
  pub lent : IsZeroCopy text given.event r.start r.end

abbrev pub shown_item : Event × Range ℕ → Ranged
shown_item item = record { event = shown item.0; start = item.1.start; end = item.1.end }

pub record ShowsRanged (text : List ℕ) (item : Event × Range ℕ) (r : Ranged) : Type 0 where
  pub is : shown_item item ≡ r
  pub range : IsRange text r.start r.end
  pub lent : IsZeroCopy text item.0 r.start r.end

-- each of these events keeps the zero-copy law over its range
abbrev pub AreZeroCopy : (text : List ℕ) → List (Event × Range ℕ) → Type 0
AreZeroCopy text [] = Unit {0}
AreZeroCopy text (item ∷ items) = IsZeroCopy text item.0 item.1.start item.1.end × AreZeroCopy text items

-- each of these ranges is in the text and cuts no character
abbrev pub CutNone : (text : List ℕ) → List (Event × Range ℕ) → Type 0
CutNone text [] = Unit {0}
CutNone text (item ∷ items) = IsRange text item.1.start item.1.end × CutNone text items

-- nothing is returned after this result
abbrev pub is_last : Result WalkStep AllocError → Bool
is_last (Ok (coming.Span short start end)) = false
is_last (Ok (coming.Block short start end)) = false
is_last (Ok (coming.Lines short start end)) = false
is_last (Ok coming.Long) = false
is_last (Ok coming.Over) = true
is_last (Err e) = true

-- this holds if the next event was reported as long
abbrev pub IfNextLong : Step → Type 0 → Type 0
IfNextLong (next.Short short start end) P = Unit {0}
IfNextLong next.Long P = P
IfNextLong next.Over P = Unit {0}

module _ {E F : Type 0} where
  -- an upper bound of the number of events that are left
  abbrev pub events_left : Parser E F → ℕ
  events_left parser = if parser.is_over then 0 else suc (walking.events_left parser.spans)

  -- the text that is parsed
  abbrev pub text_of : Parser E F → List ℕ
  text_of parser = walking.source_of parser.spans

  -- the options with which the text is parsed
  abbrev pub options_of : Parser E F → Options
  options_of parser = walking.options_of parser.spans

  -- the callback, if there is one, which is asked about references without a definition
  abbrev pub callback_of : Parser E F → Option F
  callback_of parser = parser.spans.callback.callback

  -- if there is a callback, it may be asked
  abbrev pub IsReady : (Ready : F → Type 0) → Parser E F → Type 0
  IsReady Ready parser = ForSome (callback_of parser) Ready

  -- how much the searches of the spans have looked at so far
  abbrev pub steps_of : Parser E F → Steps
  steps_of parser = walking.steps_of parser.spans

  -- the searches have taken at most 128 steps for each byte of the text
  abbrev pub IsCounted : Parser E F → Type 0
  IsCounted parser = walking.IsCounted parser.spans

  -- the link reference definitions
  abbrev pub definitions : Parser E F → RefDefs
  definitions parser = walking.definitions_of parser.spans

  -- the footnotes with which the spans are read
  abbrev pub footnotes : Parser E F → FootnoteDefs
  footnotes parser = walking.footnotes_of parser.spans

  -- the walk is over: nothing is returned any more
  abbrev pub IsOver : Parser E F → Type 0
  IsOver parser = parser.is_over ≡ true

  -- the link whose start is the next event, if the walk is not over and a link is next
  abbrev pub link_unless : (is_over : Bool) → Parser E F → Option Link
  link_unless true parser = None
  link_unless false parser = walking.link_to_come parser.spans

  abbrev pub link_to_come : Parser E F → Option Link
  link_to_come parser = link_unless parser.is_over parser

  -- the walk is not over, and the next event is not a short one
  pub record IsLong (parser : Parser E F) : Type 0 where
    pub going : parser.is_over ≡ false
    pub long : walking.IsLong parser.spans

  -- for each folded label, the parser has the first definition of this document with that label, as the definition spells it (CommonMark
  -- 4.7)
  abbrev pub DefinesAs : BlockDocument → Parser E F → Type 0
  DefinesAs document parser =
      (folded : List ℕ) → reference_at (definitions parser) folded ≡ first_with fold folded (references document)

  -- the parser has the definitions of each document that the text derives
  abbrev pub Defines : List ℕ → Options → Lookup → Parser E F → Type 0
  Defines text options lookup parser = (document : BlockDocument) → Derives text options lookup document → DefinesAs document parser

  -- the footnotes of the parser have exactly the labels of the footnotes that each derived document defines, and none is used yet
  abbrev pub DefinesFootnotes : List ℕ → Options → Lookup → Parser E F → Type 0
  DefinesFootnotes text options lookup parser =
      (document : BlockDocument) → Derives text options lookup document → HasLabels (footnote_labels document) (footnotes parser)

  -- the parser of an iterator with ranges. The names that follow mean the same for the iterator as for its parser
  abbrev pub walk_of : OffsetIter E F → Parser E F
  walk_of iter = iter.parser

  abbrev pub ranged_left : OffsetIter E F → ℕ
  ranged_left iter = events_left iter.parser

  abbrev pub ranged_definitions : OffsetIter E F → RefDefs
  ranged_definitions iter = definitions iter.parser

  abbrev pub ranged_footnotes : OffsetIter E F → FootnoteDefs
  ranged_footnotes iter = footnotes iter.parser

  abbrev pub IsRangedReady : (Ready : F → Type 0) → OffsetIter E F → Type 0
  IsRangedReady Ready iter = IsReady Ready iter.parser

  abbrev pub ranged_steps : OffsetIter E F → Steps
  ranged_steps iter = steps_of iter.parser

  abbrev pub IsRangedLong : OffsetIter E F → Type 0
  IsRangedLong iter = IsLong iter.parser

  abbrev pub IsRangedCounted : OffsetIter E F → Type 0
  IsRangedCounted iter = IsCounted iter.parser

  abbrev pub ranged_text : OffsetIter E F → List ℕ
  ranged_text iter = text_of iter.parser

  abbrev pub IsRangedOver : OffsetIter E F → Type 0
  IsRangedOver iter = IsOver iter.parser

-- `replacement` is the look-up that a value of E represents
module _ {E F : Type 0} (replacement : E → Lookup) where
  -- the look-up of entities
  abbrev pub lookup_of : Parser E F → Lookup
  lookup_of parser = replacement parser.spans.entities.now

  -- the grammar's reader for the leaves, with the definitions and the footnotes of the parser
  abbrev pub reader_for : Parser E F → Reader
  reader_for parser = record {
    source = text_of parser;
    options = options_of parser;
    lookup = lookup_of parser;
    definition = λ folded. reference_at (definitions parser) folded;
    has_footnote = λ folded. is_some (footnote (footnotes parser) folded);
    has_callback = true;
  }

  -- these events are left if the further questions get these answers: none if the walk is over, and otherwise those that the walk has left
  abbrev pub Left : (is_over : Bool) → Parser E F → List Exchange → List Ranged → Type 0
  Left true parser exchanges events = (exchanges ≡ []) × (events ≡ [])
  Left false parser exchanges events = walking.Remains replacement (reader_for parser) parser.spans exchanges events

  abbrev pub Remains : Parser E F → List Exchange → List Ranged → Type 0
  Remains parser exchanges events = Left parser.is_over parser exchanges events

  -- a call may be made: the walk is over or some events are left, and the searches have kept to their limit
  pub record CanGo (parser : Parser E F) : Type 0 where
    pub goes : GoesOn Remains IsOver parser
    pub counted : IsCounted parser

  -- the next event was reported as long: it is not a short one and, whatever the answers are, not the end of an element
  pub record ComesLong (old new : Parser E F) : Type 0 where
    pub long : IsLong new
    pub no_end : NoEndIsNext Remains old

  -- the parser is at the start of the reading of a text, with this reference expansion limit
  abbrev pub ReadsWithin : (limit : ℕ) → List ℕ → Options → Lookup → Parser E F → Type 0
  ReadsWithin limit text options lookup parser = ReadsFrom Remains text options lookup limit parser

  abbrev pub Reads : List ℕ → Options → Lookup → Parser E F → Type 0
  Reads text options lookup parser = ReadsWithin (usual_limit text) text options lookup parser

  abbrev pub RemainsRanged : OffsetIter E F → List Exchange → List Ranged → Type 0
  RemainsRanged iter exchanges events = Remains iter.parser exchanges events

  abbrev pub CanGoRanged : OffsetIter E F → Type 0
  CanGoRanged iter = CanGo iter.parser

-- `Says` relates a callback to its answer to a question
module _ {E F : Type 0} (Says : F → BrokenLink → Option (CowStr × CowStr) → F → Type 0) where
  -- the callback was asked these questions, one after the other, and gave these answers. Without a callback, the answer to each question is
  -- None
  abbrev pub Asks : Parser E F → List Exchange → Parser E F → Type 0
  Asks old taken new = Answered (AnswersIfAny Says) taken (callback_of old) (callback_of new)

  abbrev pub AsksRanged : OffsetIter E F → List Exchange → OffsetIter E F → Type 0
  AsksRanged old taken new = Asks old.parser taken new.parser

module _ {E F : Type 0} (Says : F → BrokenLink → Option (CowStr × CowStr) → F → Type 0) (replacement : E → Lookup) where
  -- one call: it returns the first of the events that were left. The text, the definitions and the labels of the footnotes do not change
  pub record Gives (old : Parser E F) (given : Option (Result Event AllocError)) (new : Parser E F) : Type 0 where
    pub next : GivesNext (Remains replacement) IsOver (Asks Says) (Shows (text_of old)) old given new
    pub text : text_of new ≡ text_of old
    pub definitions : definitions new ≡ definitions old
    pub footnotes : SameFootnotes (footnotes old) (footnotes new)
    pub counted : IsCounted new

  pub record GivesStep (old : Parser E F) (given : Option (Result Given AllocError)) (new : Parser E F) : Type 0 where
    pub next : GivesNext (Remains replacement) IsOver (Asks Says) (ShowsStep (text_of old)) old given new
    pub text : text_of new ≡ text_of old
    pub definitions : definitions new ≡ definitions old
    pub footnotes : SameFootnotes (footnotes old) (footnotes new)
    pub counted : IsCounted new
    pub fewer : OnSome given (events_left new < events_left old)

  -- these events are the first of those that were left, and the questions `taken` were asked on the way
  pub record Passes (front : List Ranged) (old new : Parser E F) : Type 0 where
    pub taken : List Exchange
    pub asks : Asks Says old taken new
    pub back : (rest : List Exchange) (events : List Ranged) → Remains replacement new rest events → Remains replacement old (taken ++ rest) (front ++ events)

  -- the event that this short event represents, with this range, is the first of those that were left
  pub record GivesShort (old : Parser E F) (short : Short) (start end : ℕ) (new : Parser E F) : Type 0 where
    pub given : Ranged
    pub is : given ≡ ranged_short short start end
    pub range : IsRange (text_of old) given.start given.end
    pub lent : IsShortZeroCopy (text_of old) short given.start given.end
    pub passes : Passes (given ∷ []) old new
    pub fewer : events_left new < events_left old

  -- no event was returned, and all events are still left
  pub record KeepsLeft (old new : Parser E F) : Type 0 where
    pub passes : Passes [] old new
    pub most : events_left new ≤ events_left old

  -- no event was left, and the walk is over
  pub record Ends (old new : Parser E F) : Type 0 where
    pub taken : List Exchange
    pub asks : Asks Says old taken new
    pub none : Remains replacement old taken []
    pub over : IsOver new

  -- a short event is the first of the events that were left. After Long, all events are still left. After Over, no event was left
  abbrev pub Answers : Parser E F → Step → Parser E F → Type 0
  Answers old (next.Short short start end) new = GivesShort old short start end new
  Answers old next.Long new = KeepsLeft old new
  Answers old next.Over new = Ends old new

  pub record GivesAs (old : Parser E F) (next : Step) (new : Parser E F) : Type 0 where
    pub answers : Answers old next new
    pub can : CanGo replacement new
    pub text : text_of new ≡ text_of old
    pub definitions : definitions new ≡ definitions old
    pub footnotes : SameFootnotes (footnotes old) (footnotes new)

  -- the texts of several lines, with a soft break between two lines, are the first of the events that were left. These bytes are the lines
  -- with a line feed between two of them; the last line is not empty
  pub record GivesLines (old : Parser E F) (bytes : List ℕ) (new : Parser E F) : Type 0 where
    pub start : ℕ
    pub lines : List (List ℕ)
    pub last : List ℕ
    pub bytes_are : bytes ≡ joined_lines lines last
    pub some : 0 < length last
    pub passes : Passes (line_events start lines last) old new
    pub fewer : events_left new < events_left old
    pub can : CanGo replacement new
    pub text : text_of new ≡ text_of old
    pub definitions : definitions new ≡ definitions old
    pub footnotes : SameFootnotes (footnotes old) (footnotes new)

  -- the lines are given as a text
  abbrev pub GivesAsText : Parser E F → Short → Parser E F → Type 0
  GivesAsText old (short.Text text) new = GivesLines old (excerpt_bytes text) new
  GivesAsText old _ new = ⊥

  -- what a call returns of the spans and of the blocks: one event, or the events of several lines
  abbrev pub GivesWalkStep : Parser E F → WalkStep → Parser E F → Type 0
  GivesWalkStep old (coming.Span short start end) new = GivesAs old (next.Short short start end) new
  GivesWalkStep old (coming.Block short start end) new = GivesAs old (next.Short short start end) new
  GivesWalkStep old (coming.Lines short start end) new = GivesAsText old short new
  GivesWalkStep old coming.Long new = GivesAs old next.Long new
  GivesWalkStep old coming.Over new = GivesAs old next.Over new

  -- one call returns events, Long or Over as above, or an error, after which the walk is over
  abbrev pub GivesOrErr : Parser E F → Result WalkStep AllocError → Parser E F → Type 0
  GivesOrErr old (Ok coming) new = GivesWalkStep old coming new
  GivesOrErr old (Err e) new = GivesStep old (Some (Err e)) new

  -- one call returns an event, Long or Over, or an error, after which the walk is over
  abbrev pub GivesNextOrErr : Parser E F → Result Step AllocError → Parser E F → Type 0
  GivesNextOrErr old (Ok next) new = GivesAs old next new
  GivesNextOrErr old (Err e) new = GivesStep old (Some (Err e)) new

  -- the start of this link, with some range, is the first of the events that were left
  pub record GivesStart (old : Parser E F) (link : Linked) (new : Parser E F) : Type 0 where
    pub given : Ranged
    pub is : given.event ≡ Start (tag.Link link)
    pub range : IsRange (text_of old) given.start given.end
    pub passes : Passes (given ∷ []) old new
    pub fewer : events_left new < events_left old
    pub can : CanGo replacement new
    pub text : text_of new ≡ text_of old
    pub definitions : definitions new ≡ definitions old
    pub footnotes : SameFootnotes (footnotes old) (footnotes new)

  -- the start of the next link is the first event, or there is an error, after which the walk is over
  abbrev pub GivesStartOrErr : Parser E F → Result (Unit {0}) AllocError → Parser E F → Type 0
  GivesStartOrErr old (Ok done) new = IfSome (link_to_come old) (λ link. GivesStart old (shown_link link) new)
  GivesStartOrErr old (Err e) new = GivesStep old (Some (Err e)) new

  pub record GivesRanged (old : OffsetIter E F) (given : Option (Result (Event × Range ℕ) AllocError)) (new : OffsetIter E F) : Type 0 where
    pub next : GivesNext (RemainsRanged replacement) IsRangedOver (AsksRanged Says) (ShowsRanged (ranged_text old)) old given new
    pub text : ranged_text new ≡ ranged_text old
    pub definitions : ranged_definitions new ≡ ranged_definitions old
    pub footnotes : SameFootnotes (ranged_footnotes old) (ranged_footnotes new)
    pub counted : IsRangedCounted new
