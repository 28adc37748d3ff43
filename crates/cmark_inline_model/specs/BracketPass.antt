-- The parts of a text by one pass, which cuts the parts read so far if a closing bracket forms a construct.
use Rattle.std.specs.Prelude.{ℕ, zero, suc, List, Option, Some, None}
use Rattle.cmark_grammar.specs.BracketStates.{State, moved, opened, Result, StaysText, Forms, Outcome, Decision, Settled, Asks}
use Rattle.cmark_grammar.specs.Items.{Bracket, Token, Stands, Opens, Closes, Ends}
use Rattle.cmark_grammar.specs.Parts.{Formed, Parts, Nil, Single, Form, Closing, Opening}
use Rattle.cmark_grammar.specs.Questions.{Exchange, Plan}
use Rattle.cmark_inline_model.specs.PartLists.{join, Cut, cut_at}

-- the state of the reading, and the parts read so far
pub record Pass : Type 0 where
  pub state : State
  pub here : Parts

abbrev pub pass : State → Parts → Pass
pass s here = record { state = s; here = here }

-- the outcome of a decision whose question is answered by a plan
abbrev pub outcome_by : Plan → List Exchange → Decision → Outcome
outcome_by plan asked (Settled outcome) = outcome
outcome_by plan asked (Asks question answered) = answered (plan asked question)

-- if there is no such opening bracket, the pass does not change
abbrev pub formed_by : Pass → (closer : Bracket) → Formed → (next : State) → Option Cut → Pass
formed_by p closer formed next None = p
formed_by p closer formed next (Some cut) = pass next (join cut.before (Form cut.opener cut.inside closer formed Nil))

abbrev pub resulting : Pass → (closer : Bracket) → Result → (next : State) → Pass
resulting p closer StaysText next = pass next (join p.here (Closing closer Nil))
resulting p closer (Forms nearer formed) next = formed_by p closer formed next (cut_at nearer p.here)

-- the pass after a closing bracket with this outcome
abbrev pub closed_by : Pass → (closer : Bracket) → Outcome → Pass
closed_by p closer outcome = resulting p closer outcome.result outcome.after

module _ (token : ℕ → Token) (decide : State → (closer : Bracket) → Decision) (plan : Plan) where
  abbrev pub stepped : Token → Pass → Pass
  stepped (Stands item resume) p = pass (moved resume p.state) (join p.here (Single item Nil))
  stepped (Opens opener) p = pass (opened opener p.state) (join p.here (Opening opener Nil))
  stepped (Closes closer) p = closed_by p closer (outcome_by plan p.state.asked (decide p.state closer))
  stepped Ends p = p

  abbrev pub step : Pass → Pass
  step p = stepped (token p.state.at) p

  abbrev pub run : ℕ → Pass → Pass
  run zero p = p
  run (suc n) p = run n (step p)

  -- the parts that this number of steps reads from a state on, and the state after them
  abbrev pub parts_by : ℕ → State → Parts
  parts_by steps s = (run steps (pass s Nil)).here

  abbrev pub end_by : ℕ → State → State
  end_by steps s = (run steps (pass s Nil)).state
