-- A leaf has a reading for each plan of answers, and only one for each list of answers.
use Rattle.std.proofs.Common.{◌≡◌, List, ◌++◌, refl, sym, ap, ◌∙◌, arith}
use Rattle.cmark_grammar.specs.BracketDecisions.{decide}
use Rattle.cmark_grammar.specs.Event.{Ranged}
use Rattle.cmark_grammar.specs.InlineReading.{inline_events}
use Rattle.cmark_grammar.specs.InlineTokens.{token}
use Rattle.cmark_grammar.specs.LeafReading.{Between, entering, leaving, ReadsLeaf}
use Rattle.cmark_grammar.specs.LeafText.{Leaf, end_of}
use Rattle.cmark_grammar.specs.Questions.{Exchange, Saying, Plan, ByPlan, IsNext}
use Rattle.cmark_grammar.specs.Readers.{Reader}
use Rattle.cmark_inline_model.specs.SiblingsModel.{spans_in}
use Rattle.cmark_inline_model.specs.LeafModel.{leaf_parts, leaf_end, leaf_events, leaf_after}
use Rattle.cmark_inline_model.specs.Progress.{IsForward, IsRecorded}
use Rattle.cmark_inline_model.proofs.BracketQuestions.{reads-next, plan_of, next-plan}
use Rattle.cmark_inline_model.proofs.BracketsEnd.{run-ends}
use Rattle.cmark_inline_model.proofs.BracketsOne.{parts-same}
use Rattle.cmark_inline_model.proofs.BracketsSound.{parts-read}
use Rattle.cmark_inline_model.proofs.SiblingsOne.{spans-sound, spans-one}

module _ (reader : Reader) (leaf : Leaf) where
  -- the leaf has a reading, for each plan of answers
  pub leaf-read : IsForward (token reader leaf) (decide reader leaf) (end_of leaf.stretches) → (plan : Plan) (before : Between)
      → ReadsLeaf reader (ByPlan plan) leaf before (leaf_events reader plan leaf before) (leaf_after reader plan leaf before)
  leaf-read forward plan before = record {
    parts = leaf_parts reader plan leaf before;
    last = leaf_end reader plan leaf before;
    spans = spans_in reader.options (leaf_parts reader plan leaf before);
    reads = record {
      reads = parts-read (token reader leaf) (decide reader leaf) (ByPlan plan) plan (λ asked question. refl) (end_of leaf.stretches) (entering leaf before);
      ends = run-ends (token reader leaf) (decide reader leaf) plan (end_of leaf.stretches) forward (entering leaf before) refl;
    };
    are = spans-sound reader.options (leaf_parts reader plan leaf before);
    events_are = refl;
    after_is = refl;
  }

  -- a reading with any answers is a reading with the list of the answers that it got, followed by any others
  pub leaf-next : IsRecorded (decide reader leaf) → (Says : Saying) (before after : Between) (events : List Ranged) (all rest : List Exchange) → all ≡ after.asked ++ rest
      → ReadsLeaf reader Says leaf before events after → ReadsLeaf reader (IsNext all) leaf before events after
  leaf-next recorded Says before after events all rest e h = grind (arith, reads-next)

  -- a leaf has only one reading for each list of answers
  pub leaf-same : (all : List Exchange) (before : Between) (first second : List Ranged) (a b : Between) → ReadsLeaf reader (IsNext all) leaf before first a → ReadsLeaf reader (IsNext all) leaf before second b → (first ≡ second) × (a ≡ b)
  leaf-same all before first second a b h k =
      let e = parts-same (token reader leaf) (decide reader leaf) (IsNext all) (plan_of all) (next-plan all) (entering leaf before) h.parts k.parts h.last k.last h.reads k.reads in
      let spans = spans-one reader.options h.parts h.spans h.are ∙ ap (spans_in reader.options) e.0 ∙ sym (spans-one reader.options k.parts k.spans k.are) in
      (h.events_are ∙ ap (inline_events reader.source) spans ∙ sym k.events_are, h.after_is ∙ ap leaving e.1 ∙ sym k.after_is)
