-- The state of a walk with spans, and the events that it has left.
use Rattle.std.specs.Prelude.{◌≡◌, ℕ, ◌+◌, ◌*◌, ◌<◌, ◌≤◌, Bool, true, false, List, [], ◌∷◌, ◌++◌, length, Option, None, is_some, option_map}
use Rattle.cmark_grammar.specs.Answers.{Lookup}
use Rattle.cmark_grammar.specs.Event.{Ranged, Start}
use Rattle.cmark_inline_model.specs.LeafSpans.{IsRange}
use Rattle.cmark_grammar.specs.LeafText.{Leaf}
use Rattle.cmark_grammar.specs.Options.{Options}
use Rattle.cmark_grammar.specs.Questions.{Exchange, Plan}
use Rattle.cmark_grammar.specs.Readers.{Reader}
use Rattle.cmark_grammar.specs.SpanDocuments as documents
use Rattle.cmark_grammar.specs.SpanDocuments.{Segment, Left}
use Rattle.cmark_grammar.specs.Tag as tag
use Rattle.cmark_grammar.specs.Tag.{Linked}
use Rattle.cmark_grammar.specs.Tokens.{slice}
use Rattle.cmark_inline_model.specs.FirstEvents.{BeginWithEnd}
use Rattle.cmark_inline_model.specs.LeafExtents.{extents}
use Rattle.cmark_inline_model.specs.LeafGaps.{HasNoPipesBetween}
use Rattle.cmark_inline_model.specs.PlacedLeaves.{IsPlaced}
use Rattle.cmark_inline_model.specs.PlainLines.{joined_lines, line_events}
use Rattle.cmark_inline_model.specs.PlannedAnswers.{AreByPlan}
use Rattle.cmark_references.specs.Definitions.{definition}
use Rattle.cmark_references.specs.Footnotes.{footnote}
use Rattle.cmark_references.specs.declared.link.Link.{Link}
use Rattle.cmark_references.specs.declared.definitions.RefDefs.{RefDefs}
use Rattle.cmark_references.specs.declared.footnotes.FootnoteDefs.{FootnoteDefs}
use Rattle.cmark_inline.specs.Counted.{total}
use Rattle.cmark_inline.specs.declared.state.InlineState.{InlineState}
use Rattle.cmark_inline.specs.declared.steps.Steps.{Steps}
use Rattle.cmark_inline.specs.Decided.{said}
use Rattle.cmark_inline.specs.Footnoted.{SameFootnotes}
use Rattle.cmark_inline.specs.Linked.{said_by}
use Rattle.cmark_slot_events.specs.LinkStarts as starts
use Rattle.cmark_slot_events.specs.Longs as longs
use Rattle.cmark_slot_events.specs.Opens as opens
use Rattle.cmark_inline.specs.PlainStretches.{IsSetOf}
use Rattle.cmark_inline.specs.Resolved.{Answered, ResolvesAs}
use Rattle.cmark_slot_events.specs.Events.{AreLeft, events_to_come}
use Rattle.cmark_slot_events.specs.LeafStates.{IsOver}
use Rattle.cmark_inline.specs.declared.callback.BrokenLink.{BrokenLink}
use Rattle.cmark_slot_events.specs.declared.leaf_events.Opened.{Opened}
use Rattle.cmark_leaf_text.specs.Reads as reads
use Rattle.cmark_leaf_text.specs.Reads.{IsPart}
use Rattle.cmark_leaf_text.specs.declared.stretch.LeafLine.{LeafLine}
use Rattle.cmark_text.specs.Excerpt.{excerpt_bytes}
use Rattle.cmark_text.specs.Ranged.{shown_ranged}
use Rattle.cmark_text.specs.Short.{IsShortZeroCopy, ranged_short}
use Rattle.cmark_values.specs.Shown.{shown_options}
use Rattle.cmark_text.specs.declared.ranged.Ranged.{Ranged as Given}
use Rattle.cmark_text.specs.declared.short.Step.{Step}
use Rattle.cmark_text.specs.declared.short.Step.TheVariants as next
use Rattle.cmark_text.specs.declared.short.Short.{Short}
use Rattle.cmark_text.specs.declared.short.Short.TheVariants as short
use Rattle.cmark_values.specs.declared.text.CowStr.{CowStr}
use Rattle.cmark_block_walk.specs.Walking as walking
use Rattle.cmark_block_walk.specs.Walking.{AreLinesOf}
use Rattle.cmark_event_walk.specs.declared.walk_step.WalkStep.{WalkStep}
use Rattle.cmark_event_walk.specs.declared.walk_step.WalkStep.TheVariants as coming
use Rattle.cmark_event_walk.specs.declared.span_walk.SpanWalk.{SpanWalk}

-- ## Events and leaves

-- the range of an event is in the text and cuts no character
abbrev pub HasRange : (source : List ℕ) → Ranged → Type 0
HasRange source r = IsRange source r.start r.end

-- there is exactly one line, from `start` to `end`. Its bytes are this text, which is not empty and cuts no character
pub record IsOnlyLine (source : List ℕ) (lines : List LeafLine) (text : List ℕ) (start end : ℕ) : Type 0 where
  pub line : LeafLine
  pub start_is : start ≡ line.start
  pub end_is : end ≡ line.content_end
  pub alone : lines ≡ line ∷ []
  pub part : IsPart source line.start line.content_end
  pub is : text ≡ slice source line.start line.content_end

-- the bytes of a leaf have their places in the text, and no pipe is between its lines
pub record HasPlaces (reader : Reader) (leaf : Leaf) : Type 0 where
  pub placed : IsPlaced reader leaf
  pub pipes : HasNoPipesBetween reader leaf

-- each event of the blocks has a range in the text, and each leaf has its places
abbrev pub ArePlaced : Reader → List Segment → Type 0
ArePlaced reader [] = Unit {0}
ArePlaced reader (documents.Given r ∷ others) = HasRange reader.source r × ArePlaced reader others
ArePlaced reader (documents.Content leaf ∷ others) = HasPlaces reader leaf × ArePlaced reader others

-- ## The state of the walk

-- the searches have left 128 steps for each byte of the leaves that are left, and no memory was refused
pub record IsAble (inline : InlineState) (source : List ℕ) (left : List Segment) : Type 0 where
  pub counted : total inline.steps + 128 * extents left ≤ 128 * length source
  pub live : inline.failed ≡ false

module _ {E F : Type 0} where
  abbrev pub source_of : SpanWalk E F → List ℕ
  source_of walk = reads.source_of walk.leaf

  abbrev pub opened_of : SpanWalk E F → List Opened
  opened_of walk = walk.events.walk.opened.items

  -- the options with which spans are parsed
  abbrev pub options_of : SpanWalk E F → Options
  options_of walk = shown_options walk.options

  -- the callback, which is asked about references without a definition
  abbrev pub callback_of : SpanWalk E F → F
  callback_of walk = walk.callback

  -- the rest of the reference expansion limit, in bytes
  abbrev pub expansion_left_of : SpanWalk E F → ℕ
  expansion_left_of walk = walk.inline.expansion_left

  -- how much the searches of the leaves have looked at so far
  abbrev pub steps_of : SpanWalk E F → Steps
  steps_of walk = walk.inline.steps

  -- the searches have taken at most 128 steps for each byte of the text
  abbrev pub IsCounted : SpanWalk E F → Type 0
  IsCounted walk = total (steps_of walk) ≤ 128 * length (source_of walk)

  -- the link reference definitions
  abbrev pub definitions_of : SpanWalk E F → RefDefs
  definitions_of walk = walking.definitions_of walk.walk

  -- the footnotes that the text defines, each with its number of uses so far
  abbrev pub footnotes_of : SpanWalk E F → FootnoteDefs
  footnotes_of walk = walk.footnotes

  -- the walk has these settings: the options, the look-up of entities, the reference expansion limit in bytes, and the callback
  pub record HasSettings (walk : SpanWalk E F) (chosen : Options) (known : E) (limit : ℕ) (asked : F) : Type 0 where
    pub options : options_of walk ≡ chosen
    pub entities : walk.entities.now ≡ known
    pub expansion_left : expansion_left_of walk ≡ limit
    pub callback : callback_of walk ≡ asked

  -- a call keeps the text, its link reference definitions and the labels of its footnotes. The steps of the searches are at most 128 for each
  -- byte of the text
  pub record KeepsText (old new : SpanWalk E F) : Type 0 where
    pub counted : IsCounted new
    pub definitions : definitions_of new ≡ definitions_of old
    pub footnotes : SameFootnotes (footnotes_of old) (footnotes_of new)
    pub source : source_of new ≡ source_of old

  -- a call only reads in the current leaf: everything outside of the leaf is as it was
  pub record KeepsAround (old new : SpanWalk E F) : Type 0 where
    pub callback : callback_of new ≡ callback_of old
    pub inline : new.inline ≡ old.inline
    pub budget : new.budget ≡ old.budget
    pub source : source_of new ≡ source_of old
    pub definitions : definitions_of new ≡ definitions_of old
    pub footnotes : footnotes_of new ≡ footnotes_of old

  -- the special bytes are those of the options
  abbrev pub HasSpecialBytes : SpanWalk E F → Type 0
  HasSpecialBytes walk = IsSetOf (options_of walk) walk.special

  -- these events and leaves of the document are left
  pub record BlocksLeft (walk : SpanWalk E F) (left : List Segment) : Type 0 where
    pub remains : walking.Remains walk.walk left
    pub few : length left < walk.budget
    pub able : IsAble walk.inline (source_of walk) left
    pub same_text : walking.text_of walk.walk ≡ source_of walk
    pub special : HasSpecialBytes walk

  -- the state in a leaf: its text was read, its slots and its open elements are sound, and its events are left
  pub record StandsInLeaf (walk : SpanWalk E F) : Type 0 where
    pub over : IsOver walk.leaf walk.events
    pub given : AreLeft walk.leaf walk.events

  abbrev pub StandsIn : (in_leaf : Bool) → SpanWalk E F → Type 0
  StandsIn true walk = StandsInLeaf walk
  StandsIn false walk = Unit {0}

  -- the walk is before these events and leaves of the document
  pub record StandsAt (walk : SpanWalk E F) (left : List Segment) : Type 0 where
    pub blocks : BlocksLeft walk left
    pub leaf : StandsIn walk.in_leaf walk

  abbrev pub Stands : SpanWalk E F → Type 0
  Stands walk = (left : List Segment) × StandsAt walk left

  -- the events that are left in the current leaf
  abbrev pub spans_to_come : (in_leaf : Bool) → SpanWalk E F → List Ranged
  spans_to_come true walk = events_to_come walk.leaf walk.events
  spans_to_come false walk = []

  -- the link whose start is the next event of the current leaf, if a link is next
  abbrev pub link_in : (in_leaf : Bool) → SpanWalk E F → Option Link
  link_in true walk = starts.link_to_come walk.events
  link_in false walk = None

  abbrev pub link_to_come : SpanWalk E F → Option Link
  link_to_come walk = link_in walk.in_leaf walk

  -- the next event is not a short one: it may own a text, or is a task marker
  abbrev pub IsLongIn : (in_leaf : Bool) → SpanWalk E F → Type 0
  IsLongIn true walk = longs.IsLong walk.events
  IsLongIn false walk = walking.IsLong walk.walk

  abbrev pub IsLong : SpanWalk E F → Type 0
  IsLong walk = IsLongIn walk.in_leaf walk

  -- more than the number of all events that are left, if a leaf has fewer than 2^66
  abbrev pub events_left : SpanWalk E F → ℕ
  events_left walk = walk.budget * 73786976294838206464 + opens.events_left walk.events

  -- fewer events are left after an event was returned, and no more than before after Long
  abbrev pub LeavesFewer : SpanWalk E F → Step → SpanWalk E F → Type 0
  LeavesFewer old (next.Short short start end) new = events_left new < events_left old
  LeavesFewer old next.Long new = events_left new ≤ events_left old
  LeavesFewer old next.Over new = Unit {0}

  -- and no more than before after any result. The leaf has the same slots, fewer than a `usize` can count
  pub record CountsDown (old : SpanWalk E F) (next : Step) (new : SpanWalk E F) : Type 0 where
    pub fewer : LeavesFewer old next new
    pub most : events_left new ≤ events_left old
    pub few : old.in_leaf ≡ true → length new.events.slots.items < 18446744073709551616
    pub slots : new.events.slots ≡ old.events.slots

  -- fewer events are left after one or more events were returned
  abbrev pub LeavesFewerAfter : SpanWalk E F → WalkStep → SpanWalk E F → Type 0
  LeavesFewerAfter old (coming.Span short start end) new = LeavesFewer old (next.Short short start end) new
  LeavesFewerAfter old (coming.Block short start end) new = LeavesFewer old (next.Short short start end) new
  LeavesFewerAfter old (coming.Lines short start end) new = events_left new < events_left old
  LeavesFewerAfter old coming.Long new = LeavesFewer old next.Long new
  LeavesFewerAfter old coming.Over new = LeavesFewer old next.Over new

  -- if the leaf has no more events, the walk is in no leaf afterwards
  abbrev pub LeavesLeaf : Step → SpanWalk E F → Type 0
  LeavesLeaf (next.Short short start end) new = Unit {0}
  LeavesLeaf next.Long new = Unit {0}
  LeavesLeaf next.Over new = new.in_leaf ≡ false

  -- the walk has the lines of this leaf, after which these events and leaves of the document come. `is_cell` says whether the leaf is a
  -- table cell
  pub record BeforeLeaf (walk : SpanWalk E F) (is_cell : Bool) (leaf : Leaf) (others : List Segment) : Type 0 where
    pub lines : AreLinesOf (source_of walk) leaf walk.lines.items
    pub cell : is_cell ≡ leaf.is_cell
    pub able : IsAble walk.inline (source_of walk) (documents.Content leaf ∷ others)
    pub blocks : BlocksLeft walk others

  -- the walk is in the leaf, before its first span
  pub record EntersLeaf (others : List Segment) (walk : SpanWalk E F) : Type 0 where
    pub stands : StandsAt walk others
    pub inside : walk.in_leaf ≡ true
    pub none_open : opened_of walk ≡ []

-- ## The reading of the walk

-- `replacement` is the look-up that a value of E represents
module _ {E F : Type 0} (replacement : E → Lookup) (reader : Reader) where
  -- the grammar reads the text of the walk, with its options, entities, definitions and footnotes, and with a callback
  pub record ReadsSame (walk : SpanWalk E F) : Type 0 where
    pub source : reader.source ≡ source_of walk
    pub options_are : reader.options ≡ options_of walk
    pub lookup_is : reader.lookup ≡ replacement walk.entities.now
    pub definitions : (folded : List ℕ) → option_map said (reader.definition folded) ≡ option_map said_by (definition (definitions_of walk) folded)
    pub footnotes_are : (folded : List ℕ) → reader.has_footnote folded ≡ is_some (footnote (footnotes_of walk) folded)
    pub callback : reader.has_callback ≡ true

  -- the walk is before some events and leaves of a document, which the grammar reads with this reader
  pub record IsReadBy (walk : SpanWalk E F) : Type 0 where
    pub left : List Segment
    pub stands : StandsAt walk left
    pub placed : ArePlaced reader left
    pub same : ReadsSame walk

  -- these events are left if the further questions get these answers. First come the events of the current leaf, and then the grammar's
  -- reading of the other events and leaves
  pub record Remains (walk : SpanWalk E F) (exchanges : List Exchange) (events : List Ranged) : Type 0 where
    pub read_by : IsReadBy walk
    pub later : List Ranged
    pub reads : Left reader read_by.left (expansion_left_of walk) exchanges later
    pub are : events ≡ spans_to_come walk.in_leaf walk ++ later

  -- whatever the answers are, the next event is not the end of an element
  abbrev pub NoEndIsNext : SpanWalk E F → Type 0
  NoEndIsNext walk = (exchanges : List Exchange) (events : List Ranged) → Remains walk exchanges events → BeginWithEnd events → ⊥

  -- the events that were left are still left
  abbrev pub KeepsLeft : (old new : SpanWalk E F) → Type 0
  KeepsLeft old new = (exchanges : List Exchange) (events : List Ranged) → Remains old exchanges events → Remains new exchanges events

  -- if the leaf has no more events, the events that were left are still left
  abbrev pub KeepsAfterLeaf : SpanWalk E F → Step → SpanWalk E F → Type 0
  KeepsAfterLeaf old (next.Short short start end) new = Unit {0}
  KeepsAfterLeaf old next.Long new = Unit {0}
  KeepsAfterLeaf old next.Over new = KeepsLeft old new

-- `replacement` is the look-up that a value of E represents
module _ {E F : Type 0} (replacement : E → Lookup) where
  -- the next event was reported as long: it is not a short one, and for each reader it is not the end of an element
  pub record ComesLong (old new : SpanWalk E F) : Type 0 where
    pub long : IsLong new
    pub no_end : (reader : Reader) → NoEndIsNext replacement reader old

-- ## The result of a call

-- the call returned the events of several lines at once
abbrev pub are_lines : WalkStep → Bool
are_lines (coming.Span short start end) = false
are_lines (coming.Block short start end) = false
are_lines (coming.Lines short start end) = true
are_lines coming.Long = false
are_lines coming.Over = false

-- this holds if the next event was reported as long
abbrev pub IfLong : WalkStep → Type 0 → Type 0
IfLong (coming.Span short start end) P = Unit {0}
IfLong (coming.Block short start end) P = Unit {0}
IfLong (coming.Lines short start end) P = Unit {0}
IfLong coming.Long P = P
IfLong coming.Over P = Unit {0}

-- the callback was asked some questions, one after the other
abbrev pub HasAsked : {F : Type 0} → (F → BrokenLink → Option (CowStr × CowStr) → F → Type 0) → (before after : F) → Type 0
HasAsked R before after = (taken : List Exchange) × Answered R taken before after

-- `Says` relates a callback to its answer to a question
module _ {E F : Type 0} (Says : F → BrokenLink → Option (CowStr × CowStr) → F → Type 0) (replacement : E → Lookup) (reader : Reader) where
  -- these events are the first of those that were left, however the walk continues. On the way the callback was asked the questions `taken`
  pub record Passes (front : List Ranged) (old new : SpanWalk E F) : Type 0 where
    pub taken : List Exchange
    pub answered : Answered Says taken (callback_of old) (callback_of new)
    pub read_by : IsReadBy replacement reader new
    pub back : (rest : List Exchange) (events : List Ranged) → Remains replacement reader new rest events → Remains replacement reader old (taken ++ rest) (front ++ events)

  -- no event was left, with the questions that were asked on the way
  pub record Ends (old new : SpanWalk E F) : Type 0 where
    pub taken : List Exchange
    pub answered : Answered Says taken (callback_of old) (callback_of new)
    pub none : Remains replacement reader old taken []

  -- memory was refused after these questions. They are the first questions of the events that were left, however further questions are
  -- answered
  pub record Stops (old new : SpanWalk E F) : Type 0 where
    pub taken : List Exchange
    pub answered : Answered Says taken (callback_of old) (callback_of new)
    pub left : (plan : Plan) → (rest : List Exchange) × (events : List Ranged) × AreByPlan plan [] rest × Remains replacement reader old (taken ++ rest) events

  -- a call returns the first of the events that were left, with its range
  pub record Gives (old : SpanWalk E F) (given : Given) (new : SpanWalk E F) : Type 0 where
    pub range : HasRange (source_of old) (shown_ranged given)
    pub passes : Passes (shown_ranged given ∷ []) old new

  -- the event that this short event represents, with this range, is the first of those that were left
  pub record GivesShort (old : SpanWalk E F) (short : Short) (start end : ℕ) (new : SpanWalk E F) : Type 0 where
    pub given : Ranged
    pub is : given ≡ ranged_short short start end
    pub range : HasRange (source_of old) given
    pub lent : IsShortZeroCopy (source_of old) short given.start given.end
    pub passes : Passes (given ∷ []) old new

  -- the start of this link, with some range, is the first of the events that were left
  pub record GivesStart (old : SpanWalk E F) (link : Linked) (new : SpanWalk E F) : Type 0 where
    pub given : Ranged
    pub is : given.event ≡ Start (tag.Link link)
    pub range : HasRange (source_of old) given
    pub passes : Passes (given ∷ []) old new

  -- a short event is the first of the events that were left. After Long, all events are still left. After Over, no event was left
  abbrev pub GivesNext : SpanWalk E F → Step → SpanWalk E F → Type 0
  GivesNext old (next.Short short start end) new = GivesShort old short start end new
  GivesNext old next.Long new = Passes [] old new
  GivesNext old next.Over new = Ends old new

  -- the texts of several lines, with a soft break between two lines, are the first of the events that were left. This text is the lines
  -- with a line feed between two of them; the last line is not empty
  pub record GivesLines (old : SpanWalk E F) (text : List ℕ) (new : SpanWalk E F) : Type 0 where
    pub start : ℕ
    pub lines : List (List ℕ)
    pub last : List ℕ
    pub text_is : text ≡ joined_lines lines last
    pub some : 0 < length last
    pub passes : Passes (line_events start lines last) old new

  -- the lines are given as a text
  abbrev pub GivesAsText : SpanWalk E F → Short → SpanWalk E F → Type 0
  GivesAsText old (short.Text text) new = GivesLines old (excerpt_bytes text) new
  GivesAsText old _ new = ⊥

  -- what a call returns of the spans and of the blocks: one event, or the events of several lines
  abbrev pub GivesWalkStep : SpanWalk E F → WalkStep → SpanWalk E F → Type 0
  GivesWalkStep old (coming.Span short start end) new = GivesNext old (next.Short short start end) new
  GivesWalkStep old (coming.Block short start end) new = GivesNext old (next.Short short start end) new
  GivesWalkStep old (coming.Lines short start end) new = GivesAsText old short new
  GivesWalkStep old coming.Long new = GivesNext old next.Long new
  GivesWalkStep old coming.Over new = GivesNext old next.Over new

  -- the result of a call for the current leaf. After Over, all events are still left
  abbrev pub GivesInLeaf : SpanWalk E F → Step → SpanWalk E F → Type 0
  GivesInLeaf old (next.Short short start end) new = GivesShort old short start end new
  GivesInLeaf old next.Long new = Passes [] old new
  GivesInLeaf old next.Over new = Passes [] old new

  -- the grammar reads the leaf as the events that are left in it now
  pub record ReadsLeaf (leaf : Leaf) (old new : SpanWalk E F) : Type 0 where
    pub resolves : ResolvesAs Says reader leaf (expansion_left_of old) (events_to_come new.leaf new.events) (expansion_left_of new) (callback_of old) (callback_of new)
    pub same : ReadsSame replacement reader new

module _ {E F : Type 0} (Says : F → BrokenLink → Option (CowStr × CowStr) → F → Type 0) (replacement : E → Lookup) where
  -- memory was refused: the next event is not the end of an element, and the questions are the first ones of the events that were left
  pub record Refuses (old new : SpanWalk E F) : Type 0 where
    pub ends : (reader : Reader) → NoEndIsNext replacement reader old
    pub asked : HasAsked Says (callback_of old) (callback_of new)
    pub stops : (reader : Reader) → IsReadBy replacement reader old → Stops Says replacement reader old new
