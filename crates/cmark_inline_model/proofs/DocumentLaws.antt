-- A document with its spans has a reading for each plan of answers, and only one for each list of answers.
use Rattle.std.proofs.Common.{◌≡◌, ℕ, List, [], ◌∷◌, ◌++◌, refl, sym, ap, ◌∙◌, subst, append_assoc, append-nil, arith}
use Rattle.cmark_grammar.specs.BlockDocument.{BlockDocument}
use Rattle.cmark_grammar.specs.BracketDecisions.{decide}
use Rattle.cmark_grammar.specs.Event.{Ranged}
use Rattle.cmark_grammar.specs.InlineTokens.{token}
use Rattle.cmark_grammar.specs.LeafReading.{Between, ReadsLeaf}
use Rattle.cmark_grammar.specs.LeafText.{Leaf, end_of, InTurn}
use Rattle.cmark_grammar.specs.Questions.{Exchange, Saying, Plan, ByPlan, IsNext}
use Rattle.cmark_grammar.specs.Readers.{Reader}
use Rattle.cmark_grammar.specs.SpanDocuments.{Profile, reader_of, Segment, Given, Content, segments, ReadsAll, at_start, IsReading}
use Rattle.cmark_block_model.proofs.BlockDocumentOne.{document-only}
use Rattle.cmark_inline_model.specs.LeafModel.{leaf_events, leaf_after, all_events, all_after, AreLeavesInTurn}
use Rattle.cmark_inline_model.specs.Progress.{IsForward, IsRecorded}
use Rattle.cmark_inline_model.proofs.BracketQuestions.{reads-add}
use Rattle.cmark_inline_model.proofs.LeafLaws.{leaf-read, leaf-next, leaf-same}

pub all-read : (reader : Reader) (size : ℕ) → ((leaf : Leaf) → InTurn 0 leaf.stretches size → IsForward (token reader leaf) (decide reader leaf) (end_of leaf.stretches))
    → (plan : Plan) (others : List Segment) (before : Between) → AreLeavesInTurn size others → ReadsAll reader (ByPlan plan) others before (all_events reader plan others before) (all_after reader plan others before)
all-read reader size forward plan [] before h = (refl, refl)
all-read reader size forward plan (Given r ∷ others) before h = (all_events reader plan others before, all-read reader size forward plan others before h, refl)
all-read reader size forward plan (Content leaf ∷ others) before h =
    let between = leaf_after reader plan leaf before in
    (leaf_events reader plan leaf before, all_events reader plan others between, between, leaf-read reader leaf (forward leaf h.0) plan before, all-read reader size forward plan others between h.1, refl)

module _ (reader : Reader) (recorded : (leaf : Leaf) → IsRecorded (decide reader leaf)) (Says : Saying) where
  -- questions were added
  abbrev Grows : Between → Between → Type 0
  Grows before after = (more : List Exchange) × (after.asked ≡ before.asked ++ more)

  leaf_grows : (leaf : Leaf) (before after : Between) (events : List Ranged) → ReadsLeaf reader Says leaf before events after → Grows before after
  leaf_grows leaf before after events h = grind (arith, reads-add)

  pub all-grow : (others : List Segment) (before after : Between) (events : List Ranged) → ReadsAll reader Says others before events after → Grows before after
  all-grow [] before after events h = ([], ap (λ (b : Between). b.asked) h.1 ∙ sym (append-nil before.asked))
  all-grow (Given r ∷ others) before after events h = all-grow others before after h.0 h.1
  all-grow (Content leaf ∷ others) before after events h =
      let a = leaf_grows leaf before h.2 h.0 h.3 in
      let b = all-grow others h.2 after h.1 h.4 in
      (a.0 ++ b.0, b.1 ∙ ap (λ l. l ++ b.0) a.1 ∙ append_assoc before.asked a.0 b.0)

  pub all-next : (all rest : List Exchange) (others : List Segment) (before after : Between) (events : List Ranged) → all ≡ after.asked ++ rest → ReadsAll reader Says others before events after
      → ReadsAll reader (IsNext all) others before events after
  all-next all rest [] before after events e h = h
  all-next all rest (Given r ∷ others) before after events e h = (h.0, all-next all rest others before after h.0 e h.1, h.2)
  all-next all rest (Content leaf ∷ others) before after events e h =
      let b = all-grow others h.2 after h.1 h.4 in
      let f : all ≡ h.2.asked ++ (b.0 ++ rest) = e ∙ ap (λ l. l ++ rest) b.1 ∙ append_assoc h.2.asked b.0 rest in
      (h.0, h.1, h.2, leaf-next reader leaf (recorded leaf) Says before h.2 h.0 all (b.0 ++ rest) f h.3, all-next all rest others h.2 after h.1 e h.4, h.5)

-- the segments have only one reading for each list of answers
pub all-same : (reader : Reader) (all : List Exchange) (others : List Segment) (before : Between) (first second : List Ranged) (a b : Between) → ReadsAll reader (IsNext all) others before first a
    → ReadsAll reader (IsNext all) others before second b → first ≡ second
all-same reader all [] before first second a b h k = h.0 ∙ sym k.0
all-same reader all (Given r ∷ others) before first second a b h k = h.2 ∙ ap (λ l. r ∷ l) (all-same reader all others before h.0 k.0 a b h.1 k.1) ∙ sym k.2
all-same reader all (Content leaf ∷ others) before first second a b h k =
    let e = leaf-same reader leaf all before h.0 k.0 h.2 k.2 h.3 k.3 in
    h.5 ∙ ap (λ l. l ++ h.1) e.0 ∙ ap (λ l. k.0 ++ l) (all-same reader all others k.2 h.1 k.1 a b (subst (λ m. ReadsAll reader (IsNext all) others m h.1 a) e.1 h.4) k.4) ∙ sym k.5

pub reading-one : (text : List ℕ) (profile : Profile) (all : List Exchange) (first second : List Ranged) → IsReading text profile all first → IsReading text profile all second → first ≡ second
reading-one text profile all first second h k =
    go h.document k.document (document-only text profile.options profile.lookup h.document h.derives ∙ sym (document-only text profile.options profile.lookup k.document k.derives)) h.reads k.reads
  where
    go : (a b : BlockDocument) → a ≡ b → ReadsAll (reader_of text profile a) (IsNext all) (segments a) (at_start profile) first h.after
        → ReadsAll (reader_of text profile b) (IsNext all) (segments b) (at_start profile) second k.after → first ≡ second
    go a b e r s = grind (arith, all-same)
