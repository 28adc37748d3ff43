-- One step of a pass over a text, for any answers that may be given.
use Rattle.std.specs.Prelude.{◌≡◌, ℕ}
use Rattle.cmark_grammar.specs.BracketReading.{Comes}
use Rattle.cmark_grammar.specs.BracketStates.{State, moved, opened, Outcome, Decision}
use Rattle.cmark_grammar.specs.Items.{Bracket, Token, Stands, Opens, Closes, Ends}
use Rattle.cmark_grammar.specs.Parts.{Nil, Single, Opening}
use Rattle.cmark_grammar.specs.Questions.{Saying}
use Rattle.cmark_inline_model.specs.BracketPass.{Pass, pass, closed_by}
use Rattle.cmark_inline_model.specs.PartLists.{join}

module _ (token : ℕ → Token) (decide : State → (closer : Bracket) → Decision) (Says : Saying) where
  abbrev pub StepsBy : Token → Pass → Pass → Type 0
  StepsBy (Stands item resume) p q = q ≡ pass (moved resume p.state) (join p.here (Single item Nil))
  StepsBy (Opens opener) p q = q ≡ pass (opened opener p.state) (join p.here (Opening opener Nil))
  StepsBy (Closes closer) p q = (outcome : Outcome) × Comes Says p.state.asked (decide p.state closer) outcome × (q ≡ closed_by p closer outcome)
  StepsBy Ends p q = q ≡ p

  abbrev pub Steps : Pass → Pass → Type 0
  Steps p q = StepsBy (token p.state.at) p q
