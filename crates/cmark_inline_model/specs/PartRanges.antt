-- The offsets of the parts of a text: they are in order, and a construct that two brackets form surrounds the parts between them.
use Rattle.std.specs.Prelude.{◌≡◌, ℕ, ◌≤◌, ◌<◌}
use Rattle.cmark_grammar.specs.BracketStates.{State, Result, StaysText, Forms, Outcome, Decision}
use Rattle.cmark_grammar.specs.Items.{Item, Bracket, Token, Stands, Opens, Closes}
use Rattle.cmark_grammar.specs.Parts.{Formed, Linking, Footnote, Wiki, Parts, Nil, Single, Form, Closing, Opening}
use Rattle.cmark_inline_model.specs.Progress.{Always}

abbrev pub end_of : Formed → ℕ
end_of (Linking target) = target.end
end_of (Footnote label end) = end
end_of (Wiki name display end) = end

-- between two offsets, in order
abbrev pub StandBetween : ℕ → Parts → ℕ → Type 0
StandBetween from Nil to = from ≤ to
StandBetween from (Single item after) to = (from ≤ item.start) × (item.start ≤ item.end) × StandBetween item.end after to
StandBetween from (Form opener inside closer formed after) to =
    (from ≤ opener.start) × (opener.start ≤ opener.end) × StandBetween opener.end inside closer.start × (closer.start < closer.end) × (closer.end ≤ end_of formed) × StandBetween (end_of formed) after to
StandBetween from (Closing closer after) to = (from ≤ closer.start) × (closer.start < closer.end) × StandBetween closer.end after to
StandBetween from (Opening opener after) to = (from ≤ opener.start) × (opener.start ≤ opener.end) × StandBetween opener.end after to

-- ## Facts that tokens and decisions preserve for this

-- a bracket begins at `at` or later, and ends at `to` or earlier
pub record StandsFrom (at : ℕ) (start end : ℕ) (to : ℕ) : Type 0 where
  pub begins : at ≤ start
  pub ordered : start ≤ end
  pub ends : end ≤ to

abbrev pub ReachesBy : (from : ℕ) → Result → (to : ℕ) → Type 0
ReachesBy from StaysText to = from ≤ to
ReachesBy from (Forms nearer formed) to = (from ≤ end_of formed) × (end_of formed ≤ to)

-- reading continues after the closing bracket, and after the construct that it forms
pub record Reaches (from size : ℕ) (o : Outcome) : Type 0 where
  pub following : ReachesBy from o.result o.after.at
  pub within : o.after.at ≤ size

pub record KeepsRanges (token : ℕ → Token) (decide : State → (closer : Bracket) → Decision) (size : ℕ) : Type 0 where
  pub stands : (at resume : ℕ) (item : Item) → token at ≡ Stands item resume → StandsFrom at item.start item.end resume × (resume ≤ size)
  pub opens : (at : ℕ) (bracket : Bracket) → token at ≡ Opens bracket → StandsFrom at bracket.start bracket.end size
  pub closes : (at : ℕ) (bracket : Bracket) → token at ≡ Closes bracket → StandsFrom at bracket.start bracket.end size × (bracket.start < bracket.end)
  pub comes : (s : State) (closer : Bracket) → token s.at ≡ Closes closer → Always (Reaches closer.end size) (decide s closer)
