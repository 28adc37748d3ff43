-- The rules of links hold of the parts of each leaf.
use Rattle.std.proofs.Common.{ℕ, ◌≤◌, ◌+◌, [], length, sym, arith, append-nil}
use Rattle.cmark_grammar.specs.BracketDecisions.{decide}
use Rattle.cmark_grammar.specs.BracketReading.{Reads}
use Rattle.cmark_grammar.specs.BracketStates.{State}
use Rattle.cmark_grammar.specs.InlineTokens.{token}
use Rattle.cmark_grammar.specs.LeafText.{Leaf, end_of, InTurn}
use Rattle.cmark_grammar.specs.Parts.{Parts}
use Rattle.cmark_grammar.specs.Questions.{AnyAnswer}
use Rattle.cmark_grammar.specs.Readers.{Reader}
use Rattle.cmark_inline_model.specs.ReferenceExpansion.{costs, Spends}
use Rattle.cmark_inline_model.specs.FormedParts.{AllFormed, closings}
use Rattle.cmark_inline_model.specs.LinkRules.{IsFormedRightly}
use Rattle.cmark_inline_model.specs.NestedLinks.{HasLinksApart}
use Rattle.cmark_inline_model.specs.PartRanges.{StandBetween}
use Rattle.cmark_inline_model.proofs.DecisionLaws.{decide-recorded, decide-apart, decide-pays}
use Rattle.cmark_inline_model.proofs.DecisionRules.{rightly-more, forms-rightly}
use Rattle.cmark_inline_model.proofs.ForwardLaws.{leaf-ranges}
use Rattle.cmark_inline_model.proofs.LinkNesting.{reading-nests}
use Rattle.cmark_inline_model.proofs.ReadingLaws.{formed-hold, reading-spends, reading-stands, questions-few}

module _ (reader : Reader) (leaf : Leaf) (s : State) (parts : Parts) (t : State) (h : Reads (token reader leaf) (decide reader leaf) AnyAnswer s parts t) where
  pub leaf-apart : HasLinksApart parts
  leaf-apart = (reading-nests (token reader leaf) (decide reader leaf) AnyAnswer (decide-apart reader leaf) s parts t h).apart

  pub leaf-few : length t.asked ≤ closings parts + length s.asked
  leaf-few = questions-few (token reader leaf) (decide reader leaf) AnyAnswer (decide-recorded reader leaf) s parts t h

  pub leaf-spends : Spends s.expansion_left (costs parts) t.expansion_left
  leaf-spends = reading-spends (token reader leaf) (decide reader leaf) AnyAnswer (decide-pays reader leaf) s parts t h

  pub leaf-led : AllFormed (IsFormedRightly reader t.asked) parts
  leaf-led =
      formed-hold (token reader leaf) (decide reader leaf) AnyAnswer (IsFormedRightly reader) (rightly-more reader) (decide-recorded reader leaf) (forms-rightly reader leaf) t.asked [] s parts t
      (sym (append-nil t.asked)) h

  pub leaf-stands : (size : ℕ) → InTurn 0 leaf.stretches size → s.at ≤ end_of leaf.stretches → StandBetween s.at parts t.at × (t.at ≤ end_of leaf.stretches)
  leaf-stands size turn w = reading-stands (token reader leaf) (decide reader leaf) AnyAnswer (end_of leaf.stretches) (leaf-ranges reader leaf size turn) s parts t s.at (omega arith) w h
