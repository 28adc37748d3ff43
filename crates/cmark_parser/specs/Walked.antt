-- The events that a walk returned, up to its end or until memory was refused.
use Rattle.std.specs.Prelude.{◌≡◌, ℕ, true, List, [], ◌++◌, map, Option}
use Rattle.std.specs.declared.ops.Range.{Range}
use Rattle.cmark_grammar.specs.Answers.{Lookup}
use Rattle.cmark_grammar.specs.Event.{Ranged}
use Rattle.cmark_grammar.specs.Headline.{profile_within}
use Rattle.cmark_grammar.specs.Options.{Options}
use Rattle.cmark_grammar.specs.Questions.{Exchange, Plan}
use Rattle.cmark_grammar.specs.SpanDocuments.{IsReading}
use Rattle.cmark_inline.specs.declared.callback.BrokenLink.{BrokenLink}
use Rattle.cmark_inline_model.specs.FirstEvents.{BeginWithEnd}
use Rattle.cmark_inline_model.specs.PlannedAnswers.{AreByPlan}
use Rattle.cmark_text.specs.declared.event.Event.{Event}
use Rattle.cmark_text.specs.Shown.{shown}
use Rattle.cmark_values.specs.declared.text.CowStr.{CowStr}
use Rattle.cmark_parser.specs.declared.parse.Parser.{Parser}
use Rattle.cmark_parser.specs.declared.parse.OffsetIter.{OffsetIter}
use Rattle.cmark_parser.specs.Parsing.{Asks, AsksRanged, IsOver, IsRangedOver, shown_item}

-- the reading of the text begins with these events, if the questions after `taken` get the answers of the plan
pub record Begin (limit : ℕ) (text : List ℕ) (options : Options) (lookup : Lookup) (taken : List Exchange) (given : List Ranged) (plan : Plan) : Type 0 where
  pub rest : List Exchange
  pub events : List Ranged
  pub planned : AreByPlan plan [] rest
  pub reading : IsReading text (profile_within limit options lookup true) (taken ++ rest) (given ++ events)

-- the reading begins with these events, and the next event is not the end of an element
pub record BeginBeforeNoEnd (limit : ℕ) (text : List ℕ) (options : Options) (lookup : Lookup) (taken : List Exchange) (given : List Ranged) (plan : Plan) : Type 0 where
  pub begin : Begin limit text options lookup taken given plan
  pub no_end : BeginWithEnd begin.events → ⊥

-- `Says` relates a callback to its answer to a question
module _ {E F : Type 0} (Says : F → BrokenLink → Option (CowStr × CowStr) → F → Type 0) (limit : ℕ) (text : List ℕ) (options : Options) (lookup : Lookup) where
  -- the events that a parser returned from its start to its end are the reading of the text. The questions of the reading are those that
  -- the callback was asked, with its answers
  pub record IsDrained (first last : Parser E F) (events : List Event) : Type 0 where
    pub exchanges : List Exchange
    pub given : List Ranged
    pub asks : Asks Says first exchanges last
    pub reading : IsReading text (profile_within limit options lookup true) exchanges given
    pub are : map shown events ≡ map (λ r. r.event) given

  -- the items that an iterator with ranges returned from its start to its end are the reading of the text
  pub record IsDrainedRanged (first last : OffsetIter E F) (items : List (Event × Range ℕ)) : Type 0 where
    pub exchanges : List Exchange
    pub asks : AsksRanged Says first exchanges last
    pub reading : IsReading text (profile_within limit options lookup true) exchanges (map shown_item items)

  -- the events that a parser returned so far are the first ones of a reading, however the callback answers later questions
  pub record IsBegun (first last : Parser E F) (events : List Event) : Type 0 where
    pub taken : List Exchange
    pub given : List Ranged
    pub asks : Asks Says first taken last
    pub are : map shown events ≡ map (λ r. r.event) given
    pub begin : (plan : Plan) → Begin limit text options lookup taken given plan

  pub record IsBegunRanged (first last : OffsetIter E F) (items : List (Event × Range ℕ)) : Type 0 where
    pub taken : List Exchange
    pub asks : AsksRanged Says first taken last
    pub begin : (plan : Plan) → Begin limit text options lookup taken (map shown_item items) plan

  -- the events that a parser returned before memory was refused are the first ones of a reading. They are so however the callback answers
  -- the questions of the refused call (`asked`) and later ones. With its answers to the questions in `asked`, they are so however it
  -- answers later ones. The walk is over
  pub record IsCutShort (first last : Parser E F) (events : List Event) : Type 0 where
    pub before : Parser E F
    pub taken : List Exchange
    pub given : List Ranged
    pub asks : Asks Says first taken before
    pub are : map shown events ≡ map (λ r. r.event) given
    pub begin : (plan : Plan) → BeginBeforeNoEnd limit text options lookup taken given plan
    pub asked : List Exchange
    pub asks_last : Asks Says before asked last
    pub stops : (plan : Plan) → BeginBeforeNoEnd limit text options lookup (taken ++ asked) given plan
    pub over : IsOver last

  pub record IsCutShortRanged (first last : OffsetIter E F) (items : List (Event × Range ℕ)) : Type 0 where
    pub before : OffsetIter E F
    pub taken : List Exchange
    pub asks : AsksRanged Says first taken before
    pub begin : (plan : Plan) → BeginBeforeNoEnd limit text options lookup taken (map shown_item items) plan
    pub asked : List Exchange
    pub asks_last : AsksRanged Says before asked last
    pub stops : (plan : Plan) → BeginBeforeNoEnd limit text options lookup (taken ++ asked) (map shown_item items) plan
    pub over : IsRangedOver last
