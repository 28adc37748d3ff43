-- Facts about all constructs that brackets form in a text, and the number of its closing brackets.
use Rattle.std.specs.Prelude.{ℕ, suc, ◌+◌, List}
use Rattle.cmark_grammar.specs.BracketStates.{State, Result, StaysText, Forms, Decision}
use Rattle.cmark_grammar.specs.Items.{Bracket}
use Rattle.cmark_grammar.specs.Parts.{Formed, Parts, Nil, Single, Form, Closing, Opening}
use Rattle.cmark_grammar.specs.Questions.{Exchange}
use Rattle.cmark_inline_model.specs.Progress.{Always}

abbrev pub AllFormed : (Formed → Type 0) → Parts → Type 0
AllFormed Holds Nil = Unit {0}
AllFormed Holds (Single item after) = AllFormed Holds after
AllFormed Holds (Form opener inside closer formed after) = Holds formed × AllFormed Holds inside × AllFormed Holds after
AllFormed Holds (Closing closer after) = AllFormed Holds after
AllFormed Holds (Opening opener after) = AllFormed Holds after

abbrev pub ResultHolds : (Formed → Type 0) → Result → Type 0
ResultHolds Holds StaysText = Unit {0}
ResultHolds Holds (Forms nearer formed) = Holds formed

-- Holds is true of whatever a closing bracket forms, with the questions that were put so far
pub record FormsOnly (Holds : List Exchange → Formed → Type 0) (decide : State → (closer : Bracket) → Decision) : Type 0 where
  pub forms : (s : State) (closer : Bracket) → Always (λ o. ResultHolds (Holds o.after.asked) o.result) (decide s closer)

-- the number of closing brackets that were read
abbrev pub closings : Parts → ℕ
closings Nil = 0
closings (Single item after) = closings after
closings (Form opener inside closer formed after) = suc (closings inside + closings after)
closings (Closing closer after) = suc (closings after)
closings (Opening opener after) = closings after
