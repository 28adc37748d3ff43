-- The events of a leaf (CommonMark 6).
use Rattle.std.specs.Prelude.{◌≡◌, ℕ, List, [], None}
use Rattle.cmark_grammar.specs.BracketDecisions.{decide}
use Rattle.cmark_grammar.specs.BracketReading.{ReadsWhole}
use Rattle.cmark_grammar.specs.BracketStates.{State}
use Rattle.cmark_grammar.specs.Event.{Ranged}
use Rattle.cmark_grammar.specs.InlineReading.{inline_events}
use Rattle.cmark_grammar.specs.InlineTokens.{token}
use Rattle.cmark_grammar.specs.LeafText.{Leaf, begin_of}
use Rattle.cmark_grammar.specs.Parts.{Parts}
use Rattle.cmark_grammar.specs.Questions.{Exchange, Saying}
use Rattle.cmark_grammar.specs.Readers.{Reader}
use Rattle.cmark_grammar.specs.Siblings.{Inline, AreSpans}

-- the state between two leaves: the rest of the reference expansion limit, and the questions asked so far, with their answers
pub record Between : Type 0 where
  pub expansion_left : ℕ
  pub asked : List Exchange

abbrev pub entering : Leaf → Between → State
entering leaf before = record { at = begin_of leaf.stretches; expansion_left = before.expansion_left; label_close = None; asked = before.asked; openers = [] }

abbrev pub leaving : State → Between
leaving s = record { expansion_left = s.expansion_left; asked = s.asked }

-- the leaf has these events, if the questions may get these answers
pub record ReadsLeaf (reader : Reader) (Says : Saying) (leaf : Leaf) (before : Between) (events : List Ranged) (after : Between) : Type 0 where
  pub parts : Parts
  pub last : State
  pub spans : Inline
  pub reads : ReadsWhole (token reader leaf) (decide reader leaf) Says (entering leaf before) parts last
  pub are : AreSpans reader.options parts spans
  pub events_are : events ≡ inline_events reader.source spans
  pub after_is : after ≡ leaving last
