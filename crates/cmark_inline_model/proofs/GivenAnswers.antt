-- A reading is determined by the answers alone: they determine which questions are put.
use Rattle.std.proofs.Common.{◌≡◌, ℕ, List, [], ◌∷◌, ◌++◌, Option, None, refl, sym, ap, ◌∙◌, subst, arith, rules}
use Rattle.cmark_grammar.specs.Answers.{Destination}
use Rattle.cmark_grammar.specs.BlockDocument.{BlockDocument}
use Rattle.cmark_grammar.specs.BracketDecisions.{decide}
use Rattle.cmark_grammar.specs.BracketReading.{Comes, Reads}
use Rattle.cmark_grammar.specs.BracketStates.{State, Outcome, Decision, Settled, Asks, moved, opened}
use Rattle.cmark_grammar.specs.Event.{Ranged}
use Rattle.cmark_grammar.specs.InlineReading.{inline_events}
use Rattle.cmark_grammar.specs.InlineTokens.{token}
use Rattle.cmark_grammar.specs.Items.{Bracket, Token}
use Rattle.cmark_grammar.specs.LeafReading.{Between, ReadsLeaf, entering, leaving}
use Rattle.cmark_grammar.specs.LeafText.{Leaf}
use Rattle.cmark_grammar.specs.Parts.{Parts, Nil, Single, Form, Closing, Opening}
use Rattle.cmark_grammar.specs.Questions.{Exchange, IsNext, Plan, Question, Saying, ByPlan}
use Rattle.cmark_grammar.specs.Readers.{Reader}
use Rattle.cmark_inline_model.specs.SiblingsModel.{spans_in}
use Rattle.cmark_grammar.specs.SpanDocuments.{Content, Given, IsReading, Profile, ReadsAll, Segment, at_start, reader_of, segments}
use Rattle.cmark_block_model.proofs.BlockDocumentOne.{document-only}
use Rattle.cmark_inline_model.specs.GivenAnswers.{answers_of}
use Rattle.cmark_inline_model.proofs.BracketsOne.{parts-same}
use Rattle.cmark_inline_model.proofs.SiblingsOne.{spans-one}

-- the answer to a question after `asked` others
abbrev answer-in : List (Option Destination) → (asked : List Exchange) → Option Destination
answer-in [] asked = None
answer-in (a ∷ answers) [] = a
answer-in (a ∷ answers) (x ∷ asked) = answer-in answers asked

abbrev pub plan-in : List (Option Destination) → Plan
plan-in answers asked question = answer-in answers asked

here : (x : Exchange) (asked rest : List Exchange) → answer-in (answers_of (asked ++ (x ∷ rest))) asked ≡ x.answer
here x [] rest = refl
here x (a ∷ asked) rest = here x asked rest

pub next-in : (all asked : List Exchange) (question : Question) (answer : Option Destination) → IsNext all asked question answer → ByPlan (plan-in (answers_of all)) asked question answer
next-in all asked question answer h = sym (ap (λ l. answer-in (answers_of l) asked) h.cut ∙ here (record { question = question; answer = answer }) asked h.rest)

-- ## A reading with some answers is a reading if more answers may be given

module _ (Says Other : Saying) (wider : (asked : List Exchange) (question : Question) (answer : Option Destination) → Says asked question answer → Other asked question answer) where
  comes-wider : (asked : List Exchange) (decision : Decision) (outcome : Outcome) → Comes Says asked decision outcome → Comes Other asked decision outcome
  comes-wider asked (Settled settled) outcome h = h
  comes-wider asked (Asks question answered) outcome h = (h.0, wider asked question h.0 h.1, h.2)

  module _ (token : ℕ → Token) (decide : State → Bracket → Decision) where
    reads-wider : (s : State) (parts : Parts) (t : State) → Reads token decide Says s parts t → Reads token decide Other s parts t
    reads-wider s Nil t h = h
    reads-wider s (Single item after) t h = (h.0, h.1, reads-wider (moved h.0 s) after t h.2)
    reads-wider s (Form opener inside closer formed after) t h = search (rules, comes-wider, reads-wider (opened opener s) inside h.until h.inside, reads-wider h.next after t h.after)
    reads-wider s (Closing closer after) t h = record { next = h.next; closes = h.closes; comes = comes-wider s.asked (decide s closer) _ h.comes; after = reads-wider h.next after t h.after }
    reads-wider s (Opening opener after) t h = (h.0, reads-wider (opened opener s) after t h.1)

  module _ (reader : Reader) where
    pub leaf-wider : (leaf : Leaf) (before after : Between) (events : List Ranged) → ReadsLeaf reader Says leaf before events after → ReadsLeaf reader Other leaf before events after
    leaf-wider leaf before after events h = grind (arith, reads-wider)

    pub all-wider : (others : List Segment) (before after : Between) (events : List Ranged) → ReadsAll reader Says others before events after → ReadsAll reader Other others before events after
    all-wider [] before after events h = h
    all-wider (Given r ∷ others) before after events h = (h.0, all-wider others before after h.0 h.1, h.2)
    all-wider (Content leaf ∷ others) before after events h = (h.0, h.1, h.2, leaf-wider leaf before h.2 h.0 h.3, all-wider others h.2 after h.1 h.4, h.5)

-- ## One reading for each plan

module _ (reader : Reader) (plan : Plan) where
  -- the spans, the events and the state for the next leaf
  pub record SameLeaf (leaf : Leaf) (before : Between) (first second : List Ranged) (one other : Between) (h : ReadsLeaf reader (ByPlan plan) leaf before first one) (k : ReadsLeaf reader (ByPlan plan) leaf before second other) : Type 0 where
    pub spans : h.spans ≡ k.spans
    pub events : first ≡ second
    pub after : one ≡ other

  pub leaf-one : (leaf : Leaf) (before : Between) (first second : List Ranged) (one other : Between) (h : ReadsLeaf reader (ByPlan plan) leaf before first one) (k : ReadsLeaf reader (ByPlan plan) leaf before second other)
      → SameLeaf leaf before first second one other h k
  leaf-one leaf before first second one other h k =
      let e = parts-same (token reader leaf) (decide reader leaf) (ByPlan plan) plan (λ asked question answer s. s) (entering leaf before) h.parts k.parts h.last k.last h.reads k.reads in
      let spans = spans-one reader.options h.parts h.spans h.are ∙ ap (spans_in reader.options) e.0 ∙ sym (spans-one reader.options k.parts k.spans k.are) in
      record { spans = spans; events = h.events_are ∙ ap (inline_events reader.source) spans ∙ sym k.events_are; after = h.after_is ∙ ap leaving e.1 ∙ sym k.after_is }

  pub all-one : (others : List Segment) (before : Between) (first second : List Ranged) (one other : Between) → ReadsAll reader (ByPlan plan) others before first one → ReadsAll reader (ByPlan plan) others before second other
      → (first ≡ second) × (one ≡ other)
  all-one [] before first second one other h k = (h.0 ∙ sym k.0, h.1 ∙ sym k.1)
  all-one (Given r ∷ others) before first second one other h k = grind (arith, all-one others before h.0 k.0 one other h.1 k.1)
  all-one (Content leaf ∷ others) before first second one other h k =
      let e = leaf-one leaf before h.0 k.0 h.2 k.2 h.3 k.3 in
      let i = all-one others k.2 h.1 k.1 one other (subst (λ m. ReadsAll reader (ByPlan plan) others m h.1 one) e.after h.4) k.4 in
      (h.5 ∙ ap (λ l. l ++ h.1) e.events ∙ ap (λ l. k.0 ++ l) i.0 ∙ sym k.5, i.1)

pub answered-one : (text : List ℕ) (profile : Profile) (asked others : List Exchange) (first second : List Ranged) → answers_of asked ≡ answers_of others → IsReading text profile asked first → IsReading text profile others second
    → (first ≡ second) × (asked ≡ others)
answered-one text profile asked others first second e h k =
    let same = document-only text profile.options profile.lookup h.document h.derives ∙ sym (document-only text profile.options profile.lookup k.document k.derives) in
    go h.document k.document same
    (all-wider (IsNext asked) (ByPlan (plan-in (answers_of others))) (λ a q x n. next-in asked a q x n ∙ ap (λ l. plan-in l a q) e) (reader_of text profile h.document) (segments h.document) (at_start profile) h.after first h.reads)
    (all-wider (IsNext others) (ByPlan (plan-in (answers_of others))) (next-in others) (reader_of text profile k.document) (segments k.document) (at_start profile) k.after second k.reads)
  where
    go : (a b : BlockDocument) → a ≡ b → ReadsAll (reader_of text profile a) (ByPlan (plan-in (answers_of others))) (segments a) (at_start profile) first h.after
        → ReadsAll (reader_of text profile b) (ByPlan (plan-in (answers_of others))) (segments b) (at_start profile) second k.after → (first ≡ second) × (asked ≡ others)
    go a b e r s = grind (arith, all-one)

-- the readings of a leaf with the same answers
pub leaf-answered : (reader : Reader) (leaf : Leaf) (before one other : Between) (asked others : List Exchange) (first second : List Ranged) → answers_of asked ≡ answers_of others
    → (h : ReadsLeaf reader (IsNext asked) leaf before first one) → (k : ReadsLeaf reader (IsNext others) leaf before second other) → (h.spans ≡ k.spans) × (first ≡ second) × (one ≡ other)
unfolding leaf-wider
leaf-answered reader leaf before one other asked others first second e h k =
    let plan = plan-in (answers_of others) in
    let same = leaf-one reader plan leaf before first second one other
    (leaf-wider (IsNext asked) (ByPlan plan) (λ a q x n. next-in asked a q x n ∙ ap (λ l. plan-in l a q) e) reader leaf before one first h)
    (leaf-wider (IsNext others) (ByPlan plan) (next-in others) reader leaf before other second k) in
    (same.spans, same.events, same.after)
