-- Facts that tokens and decisions preserve: they lead forward in the text, take existing opening brackets, record their question and do not
-- depend on earlier ones.
use Rattle.std.specs.Prelude.{◌≡◌, ℕ, suc, ◌+◌, ◌<◌, ◌≤◌, List, [], ◌∷◌, ◌++◌, length, Option}
use Rattle.cmark_grammar.specs.Answers.{Destination}
use Rattle.cmark_grammar.specs.BracketReading.{Comes}
use Rattle.cmark_grammar.specs.BracketStates.{State, Result, StaysText, Forms, Outcome, Decision, Settled, Asks}
use Rattle.cmark_grammar.specs.Items.{Item, Bracket, Token, Stands, Opens, Closes, Ends}
use Rattle.cmark_grammar.specs.Questions.{Exchange, IsNext}

-- Holds is true of every possible outcome of a decision
abbrev pub Always : (Outcome → Type 0) → Decision → Type 0
Always Holds (Settled outcome) = Holds outcome
Always Holds (Asks question answered) = (answer : Option Destination) → Holds (answered answer)

-- `size` opening brackets are texts: they stay, or those from the taken one on are removed
abbrev pub FitsBy : (size left : ℕ) → Result → Type 0
FitsBy size left StaysText = left ≡ size
FitsBy size left (Forms nearer formed) = left + suc nearer ≡ size

abbrev pub Fits : ℕ → Outcome → Type 0
Fits size o = FitsBy size (length o.after.openers) o.result

-- each token and each decision leads forward in the text; there is no token from `size` on; and a closing bracket takes an existing opening
-- bracket
pub record IsForward (token : ℕ → Token) (decide : State → (closer : Bracket) → Decision) (size : ℕ) : Type 0 where
  pub ends : (at : ℕ) → size ≤ at → token at ≡ Ends
  pub stands : (at resume : ℕ) (item : Item) → token at ≡ Stands item resume → at < resume
  pub opens : (at : ℕ) (bracket : Bracket) → token at ≡ Opens bracket → at < bracket.end
  pub comes : (s : State) (closer : Bracket) → token s.at ≡ Closes closer → Always (λ o. s.at < o.after.at) (decide s closer)
  pub fits : (s : State) (closer : Bracket) → Always (Fits (length s.openers)) (decide s closer)

-- the outcome of a decision records its question, if it put one
abbrev pub Keeps : List Exchange → Decision → Type 0
Keeps asked (Settled outcome) = outcome.after.asked ≡ asked
Keeps asked (Asks question answered) = (answer : Option Destination) → (answered answer).after.asked ≡ asked ++ (record { question = question; answer = answer } ∷ [])

pub record IsRecorded (decide : State → (closer : Bracket) → Decision) : Type 0 where
  pub keeps : (s : State) (closer : Bracket) → Keeps s.asked (decide s closer)

-- the state after other questions
abbrev pub asked_after : List Exchange → State → State
asked_after h s = record { at = s.at; expansion_left = s.expansion_left; label_close = s.label_close; asked = h ++ s.asked; openers = s.openers }

abbrev pub outcome_after : List Exchange → Outcome → Outcome
outcome_after h o = record { result = o.result; after = asked_after h o.after }

-- a decision does not depend on the questions that were put before
pub record IsShifted (decide : State → (closer : Bracket) → Decision) : Type 0 where
  pub comes : (h all : List Exchange) (s : State) (closer : Bracket) (o : Outcome) → Comes (IsNext all) s.asked (decide s closer) o
      → Comes (IsNext (h ++ all)) (h ++ s.asked) (decide (asked_after h s) closer) (outcome_after h o)
