-- How a text is read as parts (CommonMark 6.3), for any tokens and any decision about closing brackets.
use Rattle.std.specs.Prelude.{◌≡◌, ℕ, List, Option}
use Rattle.cmark_grammar.specs.Answers.{Destination}
use Rattle.cmark_grammar.specs.BracketStates.{State, moved, opened, StaysText, Forms, Outcome, Decision, Settled, Asks}
use Rattle.cmark_grammar.specs.Items.{Bracket, Token, Stands, Opens, Closes, Ends}
use Rattle.cmark_grammar.specs.Parts.{Formed, Parts, Nil, Single, Form, Closing, Opening, openings}
use Rattle.cmark_grammar.specs.Questions.{Exchange, Saying}

-- a decision has this outcome if these answers may be given
abbrev pub Comes : Saying → List Exchange → Decision → Outcome → Type 0
Comes Says asked (Settled settled) outcome = outcome ≡ settled
Comes Says asked (Asks question answered) outcome = (answer : Option Destination) × Says asked question answer × (outcome ≡ answered answer)

-- `token` is the token at a place; `decide` is the decision about a closing bracket
module _ (token : ℕ → Token) (decide : State → (closer : Bracket) → Decision) (Says : Saying) where
  -- an opening bracket, the parts after it up to a closing bracket, and the part that both form. The nearer opening brackets that are texts
  -- between the two are passed over
  pub record IsForm (Inside : State → State → Type 0) (After : State → Type 0) (s : State) (opener closer : Bracket) (nearer : ℕ) (formed : Formed) : Type 0 where
    pub until : State
    pub next : State
    pub opens : token s.at ≡ Opens opener
    pub inside : Inside (opened opener s) until
    pub closes : token until.at ≡ Closes closer
    pub comes : Comes Says until.asked (decide until closer) (record { result = Forms nearer formed; after = next })
    pub after : After next

  -- a closing bracket that forms nothing
  pub record IsAlone (After : State → Type 0) (s : State) (closer : Bracket) : Type 0 where
    pub next : State
    pub closes : token s.at ≡ Closes closer
    pub comes : Comes Says s.asked (decide s closer) (record { result = StaysText; after = next })
    pub after : After next

  -- from one state to another the text is read as these parts
  abbrev pub Reads : State → Parts → State → Type 0
  Reads s Nil t = t ≡ s
  Reads s (Single item after) t = (resume : ℕ) × (token s.at ≡ Stands item resume) × Reads (moved resume s) after t
  Reads s (Form opener inside closer formed after) t = IsForm (λ a b. Reads a inside b) (λ b. Reads b after t) s opener closer (openings inside) formed
  Reads s (Closing closer after) t = IsAlone (λ b. Reads b after t) s closer
  Reads s (Opening opener after) t = (token s.at ≡ Opens opener) × Reads (opened opener s) after t

  -- reading the whole text
  pub record ReadsWhole (s : State) (parts : Parts) (t : State) : Type 0 where
    pub reads : Reads s parts t
    pub ends : token t.at ≡ Ends
