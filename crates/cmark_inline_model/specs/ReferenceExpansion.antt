-- The cost of references under the reference expansion limit (this profile's own).
use Rattle.std.specs.Prelude.{◌≡◌, ℕ, ◌+◌, ◌-◌, ◌<◌, List, [], ◌∷◌, ◌++◌, length}
use Rattle.cmark_grammar.specs.BracketStates.{State, Result, StaysText, Forms, Outcome, Decision}
use Rattle.cmark_grammar.specs.Items.{Bracket}
use Rattle.cmark_grammar.specs.LinkType.{LinkType, Reference, ReferenceUnknown, Collapsed, CollapsedUnknown, Shortcut, ShortcutUnknown}
use Rattle.cmark_grammar.specs.Parts.{Formed, Linking, Footnote, Wiki, Parts, Nil, Single, Form, Closing, Opening}
use Rattle.cmark_inline_model.specs.Progress.{Always}

-- the bytes of a reference's destination and title; other links cost nothing
abbrev pub cost_as : LinkType → ℕ → List ℕ
cost_as Reference size = size ∷ []
cost_as ReferenceUnknown size = size ∷ []
cost_as Collapsed size = size ∷ []
cost_as CollapsedUnknown size = size ∷ []
cost_as Shortcut size = size ∷ []
cost_as ShortcutUnknown size = size ∷ []
cost_as _ size = []

abbrev pub cost : Formed → List ℕ
cost (Linking target) = cost_as target.linked.link_type (length target.linked.destination + length target.linked.title)
cost (Footnote label end) = []
cost (Wiki name display end) = []

-- the costs of the references of these parts, in the order of their closing brackets
abbrev pub costs : Parts → List ℕ
costs Nil = []
costs (Single item after) = costs after
costs (Form opener inside closer formed after) = costs inside ++ (cost formed ++ costs after)
costs (Closing closer after) = costs after
costs (Opening opener after) = costs after

-- each cost is subtracted from the rest of the limit, which has to be more than 0
abbrev pub Spends : (before : ℕ) → List ℕ → (after : ℕ) → Type 0
Spends before [] after = after ≡ before
Spends before (c ∷ cs) after = (0 < before) × Spends (before - c) cs after

abbrev pub PaysBy : (before : ℕ) → Result → (after : ℕ) → Type 0
PaysBy before StaysText after = after ≡ before
PaysBy before (Forms nearer formed) after = Spends before (cost formed) after

abbrev pub Pays : ℕ → Outcome → Type 0
Pays before o = PaysBy before o.result o.after.expansion_left

pub record KeepsLimit (decide : State → (closer : Bracket) → Decision) : Type 0 where
  pub pays : (s : State) (closer : Bracket) → Always (Pays s.expansion_left) (decide s closer)
