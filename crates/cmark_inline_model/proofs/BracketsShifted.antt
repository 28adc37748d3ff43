-- A reading does not see which questions were put before it.
use Rattle.std.proofs.Common.{ℕ, List, ◌++◌, ap}
use Rattle.cmark_grammar.specs.BracketReading.{Reads}
use Rattle.cmark_grammar.specs.BracketStates.{State, moved, opened, StaysText, Forms, Decision}
use Rattle.cmark_grammar.specs.Items.{Bracket, Token}
use Rattle.cmark_grammar.specs.Parts.{Parts, Nil, Single, Form, Closing, Opening, openings}
use Rattle.cmark_grammar.specs.Questions.{Exchange, IsNext}
use Rattle.cmark_inline_model.specs.Progress.{asked_after, IsShifted}

module _ (token : ℕ → Token) (decide : State → (closer : Bracket) → Decision) (shifted : IsShifted decide) (h all : List Exchange) where
  pub reads-following : (s : State) (parts : Parts) (t : State) → Reads token decide (IsNext all) s parts t → Reads token decide (IsNext (h ++ all)) (asked_after h s) parts (asked_after h t)
  reads-following s Nil t k = ap (asked_after h) k
  reads-following s (Single item after) t k = (k.0, k.1, reads-following (moved k.0 s) after t k.2)
  reads-following s (Form opener inside closer formed after) t k = record {
    until = asked_after h k.until;
    next = asked_after h k.next;
    opens = k.opens;
    inside = reads-following (opened opener s) inside k.until k.inside;
    closes = k.closes;
    comes = shifted.comes h all k.until closer (record { result = Forms (openings inside) formed; after = k.next }) k.comes;
    after = reads-following k.next after t k.after;
  }
  reads-following s (Closing closer after) t k = record {
    next = asked_after h k.next;
    closes = k.closes;
    comes = shifted.comes h all s closer (record { result = StaysText; after = k.next }) k.comes;
    after = reads-following k.next after t k.after;
  }
  reads-following s (Opening opener after) t k = (k.0, reads-following (opened opener s) after t k.1)
