-- A reading whose answers are all None is a reading without a callback, except for the questions.
use Rattle.std.proofs.Common.{◌≡◌, ℕ, List, [], ◌∷◌, ◌++◌, Option, None, refl, ap, subst, ◌∙◌, arith, rules}
use Rattle.cmark_grammar.specs.Answers.{Destination}
use Rattle.cmark_grammar.specs.BracketDecisions.{decide}
use Rattle.cmark_grammar.specs.BracketReading.{Comes, Reads}
use Rattle.cmark_grammar.specs.BracketStates.{State, moved, opened, Outcome, Decision, Settled, Asks}
use Rattle.cmark_grammar.specs.Event.{Ranged}
use Rattle.cmark_grammar.specs.InlineTokens.{token}
use Rattle.cmark_grammar.specs.Items.{Bracket}
use Rattle.cmark_grammar.specs.LeafReading.{Between, entering, ReadsLeaf}
use Rattle.cmark_grammar.specs.LeafText.{Leaf}
use Rattle.cmark_grammar.specs.Parts.{Parts, Nil, Single, Form, Closing, Opening}
use Rattle.cmark_grammar.specs.Questions.{Question, Exchange, IsNext, AnyAnswer}
use Rattle.cmark_grammar.specs.Readers.{Reader}
use Rattle.cmark_grammar.specs.SpanDocuments.{Segment, Given, Content, ReadsAll, Profile, IsReading}
use Rattle.cmark_inline_model.proofs.BracketQuestions.{reads-next}
use Rattle.cmark_inline_model.specs.Unanswered.{AreUnanswered, silent, without_callback, unasked}
use Rattle.cmark_inline_model.proofs.DecisionLaws.{decide-recorded}
use Rattle.cmark_inline_model.proofs.SilentDecisions.{NoAnswer, unasked_outcome, decide-falls}
use Rattle.cmark_inline_model.proofs.SilentTokens.{token-same}

-- the answer to the next question of such a list is None
next_none : (asked rest : List Exchange) (x : Exchange) → AreUnanswered (asked ++ (x ∷ rest)) → x.answer ≡ None
next_none [] rest x h = h.0
next_none (a ∷ asked) rest x h = next_none asked rest x h.1

pub unanswered-next : (all : List Exchange) → AreUnanswered all → (asked : List Exchange) (q : Question) (answer : Option Destination) → IsNext all asked q answer → answer ≡ None
unanswered-next all h asked q answer k = next_none asked k.rest (record { question = q; answer = answer }) (subst AreUnanswered k.cut h)

module _ (reader : Reader) (leaf : Leaf) (all : List Exchange) (none : AreUnanswered all) where
  comes_none : (asked : List Exchange) (d : Decision) (o : Outcome) → Comes (IsNext all) asked d o → Comes NoAnswer asked d o
  comes_none asked (Settled outcome) o h = h
  comes_none asked (Asks q answered) o h = (h.0, unanswered-next all none asked q h.0 h.1, h.2)

  falls : (s : State) (closer : Bracket) (o : Outcome) → Comes (IsNext all) s.asked (decide reader leaf s closer) o → Comes AnyAnswer [] (decide (silent reader) leaf (unasked s) closer) (unasked_outcome o)
  falls s closer o h = decide-falls reader leaf s closer o (comes_none s.asked (decide reader leaf s closer) o h)

  pub reads-silent : (s : State) (parts : Parts) (t : State) → Reads (token reader leaf) (decide reader leaf) (IsNext all) s parts t
      → Reads (token (silent reader) leaf) (decide (silent reader) leaf) AnyAnswer (unasked s) parts (unasked t)
  reads-silent s Nil t h = ap unasked h
  reads-silent s (Single item after) t h = (h.0, token-same reader leaf s.at ∙ h.1, reads-silent (moved h.0 s) after t h.2)
  reads-silent s (Form opener inside closer formed after) t h = search (rules, token-same, falls, reads-silent (opened opener s) inside h.until h.inside, reads-silent h.next after t h.after)
  reads-silent s (Closing closer after) t h = search (rules, token-same, falls, reads-silent h.next after t h.after)
  reads-silent s (Opening opener after) t h = (token-same reader leaf s.at ∙ h.0, reads-silent (opened opener s) after t h.1)

abbrev unasked_between : Between → Between
unasked_between b = record { expansion_left = b.expansion_left; asked = [] }

module _ (reader : Reader) (all : List Exchange) (none : AreUnanswered all) where
  leaf_silent : (leaf : Leaf) (before after : Between) (events : List Ranged) → ReadsLeaf reader (IsNext all) leaf before events after
      → ReadsLeaf (silent reader) (IsNext []) leaf (unasked_between before) events (unasked_between after)
  leaf_silent leaf before after events h = record {
    parts = h.parts;
    last = unasked h.last;
    spans = h.spans;
    reads = record {
      reads = reads-next (token (silent reader) leaf) (decide (silent reader) leaf) AnyAnswer (decide-recorded (silent reader) leaf) [] [] (unasked (entering leaf before)) h.parts (unasked h.last) refl
          (reads-silent reader leaf all none (entering leaf before) h.parts h.last h.reads.reads);
      ends = token-same reader leaf h.last.at ∙ h.reads.ends;
    };
    are = h.are;
    events_are = h.events_are;
    after_is = ap unasked_between h.after_is;
  }

  pub all-silent : (others : List Segment) (before after : Between) (events : List Ranged) → ReadsAll reader (IsNext all) others before events after
      → ReadsAll (silent reader) (IsNext []) others (unasked_between before) events (unasked_between after)
  all-silent [] before after events h = (h.0, ap unasked_between h.1)
  all-silent (Given r ∷ others) before after events h = (h.0, all-silent others before after h.0 h.1, h.2)
  all-silent (Content leaf ∷ others) before after events h =
      (h.0, h.1, unasked_between h.2, leaf_silent leaf before h.2 h.0 h.3, all-silent others h.2 after h.1 h.4, h.5)

pub reading-silent : (text : List ℕ) (profile : Profile) (exchanges : List Exchange) (events : List Ranged) → AreUnanswered exchanges → IsReading text profile exchanges events → IsReading text (without_callback profile) [] events
reading-silent text profile exchanges events none h = grind (arith, all-silent)
