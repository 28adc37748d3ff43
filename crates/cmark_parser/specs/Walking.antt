-- The events that a walk over a document has left, and the result of one call.
use Rattle.std.specs.Prelude.{◌≡◌, ◌⊎◌, ℕ, true, List, [], ◌∷◌, ◌++◌, Option, Some, None, Result, Ok, Err}
use Rattle.std.specs.declared.alloc.AllocError.{AllocError}
use Rattle.cmark_grammar.specs.Answers.{Lookup}
use Rattle.cmark_block_model.specs.DocumentModel.{document}
use Rattle.cmark_grammar.specs.Event.{Ranged}
use Rattle.cmark_grammar.specs.Headline.{profile, profile_within}
use Rattle.cmark_grammar.specs.Options.{Options}
use Rattle.cmark_grammar.specs.Questions.{Exchange, Plan}
use Rattle.cmark_grammar.specs.Readers.{Reader}
use Rattle.cmark_grammar.specs.SpanDocuments.{IsReading, reader_of}
use Rattle.cmark_inline_model.specs.FirstEvents.{BeginWithEnd}
use Rattle.cmark_inline_model.specs.PlannedAnswers.{AreByPlan}

-- the grammar's reader for the leaves of the text's document, if there is a callback
abbrev pub reader_by : (text : List ℕ) → Options → Lookup → Reader
reader_by text options lookup = reader_of text (profile text options lookup true) (document text options lookup)

-- the states of a walk. Remains says which events are left if the further questions get these answers. Several lists may be left, since the
-- later answers of a callback are not known yet
module _ {S : Type 0} (Remains : S → List Exchange → List Ranged → Type 0) where
  -- with a plan's answers, some events are left
  abbrev pub SomeLeft : Plan → S → Type 0
  SomeLeft plan s = (exchanges : List Exchange) × (events : List Ranged) × AreByPlan plan [] exchanges × Remains s exchanges events

  -- with these questions first, and a plan's answers to the further ones, some events are left
  abbrev pub SomeLeftFrom : (taken : List Exchange) → Plan → S → Type 0
  SomeLeftFrom taken plan s = (rest : List Exchange) × (events : List Ranged) × AreByPlan plan [] rest × Remains s (taken ++ rest) events

  -- whatever the answers are, the next event is not the end of an element
  abbrev pub NoEndIsNext : S → Type 0
  NoEndIsNext s = (exchanges : List Exchange) (events : List Ranged) → Remains s exchanges events → BeginWithEnd events → ⊥

  -- a walk at its start. For each plan some events are left with its answers. Whichever events are left with some questions and answers,
  -- they are the reading of the text with exactly these questions and answers
  pub record ReadsFrom (text : List ℕ) (options : Options) (lookup : Lookup) (limit : ℕ) (s : S) : Type 0 where
    pub some : (plan : Plan) → SomeLeft plan s
    pub reads : (exchanges : List Exchange) (events : List Ranged) → Remains s exchanges events → IsReading text (profile_within limit options lookup true) exchanges events

  -- IsOver says that nothing is returned any more. A call may be made if the walk is over, or if some events are left whatever the answers
  -- are
  module _ (IsOver : S → Type 0) where
    abbrev pub GoesOn : S → Type 0
    GoesOn s = IsOver s ⊎ ((plan : Plan) → SomeLeft plan s)

-- Asks says which questions a callback was asked between two states, and its answers. Shows says which event an item shows
module _ {S T : Type 0} (Remains : S → List Exchange → List Ranged → Type 0) (IsOver : S → Type 0) (Asks : S → List Exchange → S → Type 0) (Shows : T → Ranged → Type 0) where
  -- None: no event was left. An error: the next event is not the end of an element, and the walk is over. The questions of this call are
  -- then the first questions of the events that were left, however further ones are answered. An event: it is the first of those that were
  -- left, however the walk continues
  abbrev pub GivesFirst : S → (taken : List Exchange) → Option (Result T AllocError) → S → Type 0
  GivesFirst old taken None new = Asks old taken new × Remains old taken [] × IsOver new
  GivesFirst old taken (Some (Ok x)) new =
      Asks old taken new × ((r : Ranged) × Shows x r × ((rest : List Exchange) (events : List Ranged) → Remains new rest events → Remains old (taken ++ rest) (r ∷ events)))
  GivesFirst old taken (Some (Err e)) new = Asks old taken new × NoEndIsNext Remains old × IsOver new × ((plan : Plan) → SomeLeftFrom Remains taken plan old)

  -- one call, in which these questions were asked. After the end, nothing is asked and None is returned
  pub record GivesNext (old : S) (given : Option (Result T AllocError)) (new : S) : Type 0 where
    pub taken : List Exchange
    pub first : GivesFirst old taken given new
    pub goes_on : GoesOn Remains IsOver new
    pub over : IsOver old → (given ≡ None) × (taken ≡ []) × IsOver new
