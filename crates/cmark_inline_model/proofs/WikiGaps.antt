-- Between the brackets of a wikilink there is another bracket.
use Rattle.std.proofs.Common.{◌≡◌, ℕ, ◌+◌, ◌<◌, ◌≤◌, List, ap, arith, rules}
use Rattle.cmark_grammar.specs.BracketDecisions.{decide}
use Rattle.cmark_grammar.specs.BracketReading.{Reads}
use Rattle.cmark_grammar.specs.BracketStates.{State, moved, opened, Result, StaysText, Forms, Outcome, Decision}
use Rattle.cmark_grammar.specs.Items.{Bracket, Token}
use Rattle.cmark_grammar.specs.LeafText.{Leaf}
use Rattle.cmark_grammar.specs.Parts.{Formed, Wiki, Parts, Nil, Single, Form, Closing, Opening, openings}
use Rattle.cmark_grammar.specs.Questions.{Exchange, Saying}
use Rattle.cmark_grammar.specs.Readers.{Reader}
use Rattle.cmark_inline_model.specs.PartRanges.{KeepsRanges}
use Rattle.cmark_inline_model.specs.Progress.{Always, IsForward}
use Rattle.cmark_inline_model.proofs.DecisionLaws.{always-by}
use Rattle.cmark_inline_model.proofs.DecisionShape.{Shape}
use Rattle.cmark_inline_model.proofs.LinkNesting.{always-comes}

-- at least one byte is between the brackets of a wikilink
abbrev GapBy : Formed → (opener closer : Bracket) → Type 0
GapBy (Wiki name display end) opener closer = opener.end < closer.start
GapBy _ opener closer = Unit {0}

abbrev pub HaveGaps : Parts → Type 0
HaveGaps Nil = Unit {0}
HaveGaps (Single item after) = HaveGaps after
HaveGaps (Form opener inside closer formed after) = GapBy formed opener closer × HaveGaps inside × HaveGaps after
HaveGaps (Closing closer after) = HaveGaps after
HaveGaps (Opening opener after) = HaveGaps after

-- its opening bracket has a nearer one
abbrev FarBy : (nearer : ℕ) → Formed → Type 0
FarBy nearer (Wiki name display end) = 1 ≤ nearer
FarBy nearer _ = Unit {0}

abbrev pub IsFarResult : Result → Type 0
IsFarResult StaysText = Unit {0}
IsFarResult (Forms nearer formed) = FarBy nearer formed

module _ (token : ℕ → Token) (decide : State → (closer : Bracket) → Decision) (Says : Saying) (size : ℕ) (forward : IsForward token decide size) (ranges : KeepsRanges token decide size) where
  -- each opening bracket that is a text takes a byte
  grows : (s : State) (parts : Parts) (t : State) → Reads token decide Says s parts t → s.at + openings parts ≤ t.at
  grows s Nil t h = let e : t.at ≡ s.at = ap (λ (x : State). x.at) h in omega arith
  grows s (Single item after) t h = search (rules, grows (moved h.0 s) after t h.2)
  grows s (Form opener inside closer formed after) t h = search (rules, always-comes, grows (opened opener s) inside h.until h.inside, grows h.next after t h.after)
  grows s (Closing closer after) t h = grind (arith, always-comes, grows h.next after t h.after)
  grows s (Opening opener after) t h = search (rules, grows (opened opener s) after t h.1)

  pub reading-gaps : ((s : State) (closer : Bracket) → Always (λ o. IsFarResult o.result) (decide s closer)) → (s : State) (parts : Parts) (t : State) → Reads token decide Says s parts t → HaveGaps parts
  reading-gaps far s Nil t h = tt
  reading-gaps far s (Single item after) t h = reading-gaps far (moved h.0 s) after t h.2
  reading-gaps far s (Form opener inside closer formed after) t h = search (rules, grows, always-comes, reading-gaps far (opened opener s) inside h.until h.inside, reading-gaps far h.next after t h.after)
  reading-gaps far s (Closing closer after) t h = reading-gaps far h.next after t h.after
  reading-gaps far s (Opening opener after) t h = reading-gaps far (opened opener s) after t h.1

module _ (reader : Reader) (leaf : Leaf) where
  shape_far : (s : State) (closer : Bracket) (asked : List Exchange) (o : Outcome) → Shape reader leaf s closer asked o → IsFarResult o.result
  shape_far s closer asked o h = grind arith

  pub decide-far : (s : State) (closer : Bracket) → Always (λ o. IsFarResult o.result) (decide reader leaf s closer)
  decide-far s closer = always-by reader leaf s closer (λ o. IsFarResult o.result) (shape_far s closer)
