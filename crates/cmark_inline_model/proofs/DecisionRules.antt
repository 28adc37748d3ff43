-- The grammar's decisions give references the destination of their definition or of an answer. They ask only about labels without a
-- definition, and form footnote references and wikilinks only if these are enabled.
use Rattle.std.proofs.Common.{List, ◌++◌, append_assoc, arith}
use Rattle.cmark_grammar.specs.BracketDecisions.{linked, decide}
use Rattle.cmark_grammar.specs.BracketStates.{State, Outcome}
use Rattle.cmark_grammar.specs.Items.{Bracket}
use Rattle.cmark_grammar.specs.LeafText.{Leaf}
use Rattle.cmark_grammar.specs.LinkType.{LinkType, to_unknown}
use Rattle.cmark_grammar.specs.Parts.{Formed, Linking}
use Rattle.cmark_grammar.specs.Questions.{Exchange}
use Rattle.cmark_grammar.specs.Readers.{Reader}
use Rattle.cmark_grammar.specs.Tag.{Linked}
use Rattle.cmark_inline_model.specs.FormedParts.{ResultHolds, FormsOnly}
use Rattle.cmark_inline_model.specs.LinkRules.{IsReferenceForm, AsksRightly, IsDefined, IsAnswered, LeadsBy, IsFormedRightly}
use Rattle.cmark_inline_model.proofs.DecisionLaws.{always-by}
use Rattle.cmark_inline_model.proofs.DecisionShape.{exchange, Shape, decide-shape}

-- after further questions
answered_more : (reader : Reader) (asked more : List Exchange) (written : LinkType) (l : Linked) → IsAnswered reader asked written l → IsAnswered reader (asked ++ more) written l
answered_more reader asked more written l h = grind (arith, exchange, append_assoc)

led_more : (reader : Reader) (asked more : List Exchange) (t : LinkType) (l : Linked) → LeadsBy t reader asked l → LeadsBy t reader (asked ++ more) l
led_more reader asked more t l h = grind (arith, answered_more)

pub rightly-more : (reader : Reader) (asked more : List Exchange) (formed : Formed) → IsFormedRightly reader asked formed → IsFormedRightly reader (asked ++ more) formed
rightly-more reader asked more (Linking target) h = led_more reader asked more target.linked.link_type target.linked h
rightly-more reader asked more _ h = h

-- a reference in one of the three forms
by_definition : (reader : Reader) (asked : List Exchange) (t : LinkType) (l : Linked) → IsReferenceForm t → IsDefined reader l → LeadsBy t reader asked l
by_definition reader asked t l f h = grind arith

by_answer : (reader : Reader) (asked : List Exchange) (t : LinkType) (l : Linked) → IsReferenceForm t → IsAnswered reader asked t l → LeadsBy (to_unknown t) reader asked l
by_answer reader asked t l f h = grind arith

module _ (reader : Reader) (leaf : Leaf) where
  pub asks-rightly : (s : State) (closer : Bracket) → AsksRightly reader s (decide reader leaf s closer)
  asks-rightly s closer = grind (arith, decide-shape)

  abbrev Rightly : Outcome → Type 0
  Rightly o = ResultHolds (IsFormedRightly reader o.after.asked) o.result

  shape_rightly : (s : State) (closer : Bracket) (asked : List Exchange) (o : Outcome) → Shape reader leaf s closer asked o → Rightly o
  shape_rightly s closer asked o h = grind (arith, by_definition, by_answer, exchange)

  pub forms-rightly : FormsOnly (IsFormedRightly reader) (decide reader leaf)
  forms-rightly = record { forms = λ s closer. always-by reader leaf s closer Rightly (shape_rightly s closer) }
