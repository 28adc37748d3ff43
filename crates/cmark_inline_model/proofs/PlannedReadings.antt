-- The rest of a text can be read with the answers of a plan.
use Rattle.std.proofs.Common.{◌≡◌, ℕ, List, [], ◌∷◌, ◌++◌, length, refl, sym, ap, ◌∙◌, subst, append_assoc, append-nil, arith}
use Rattle.cmark_grammar.specs.BracketDecisions.{decide}
use Rattle.cmark_grammar.specs.BracketReading.{Comes, Reads}
use Rattle.cmark_grammar.specs.BracketStates.{Decision, Outcome, State, moved, opened}
use Rattle.cmark_grammar.specs.Event.{Ranged}
use Rattle.cmark_grammar.specs.InlineTokens.{token}
use Rattle.cmark_grammar.specs.Items.{Bracket, Token}
use Rattle.cmark_grammar.specs.LeafReading.{Between, ReadsLeaf, entering}
use Rattle.cmark_grammar.specs.LeafText.{Leaf}
use Rattle.cmark_grammar.specs.Parts.{Closing, Form, Nil, Opening, Parts, Single}
use Rattle.cmark_grammar.specs.Questions.{ByPlan, Exchange, Plan}
use Rattle.cmark_grammar.specs.Readers.{Reader}
use Rattle.cmark_grammar.specs.SpanDocuments.{Content, Given, Left, ReadsAll, Segment}
use Rattle.cmark_inline_model.specs.LeafModel.{AreLeavesInTurn, all_after, all_events}
use Rattle.cmark_inline_model.specs.PlannedAnswers.{AreByPlan}
use Rattle.cmark_inline_model.specs.Progress.{IsRecorded, Keeps}
use Rattle.cmark_inline_model.proofs.DecisionLaws.{decide-recorded}
use Rattle.cmark_inline_model.proofs.DocumentLaws.{all-next, all-read}
use Rattle.cmark_inline_model.proofs.ForwardLaws.{leaf-forward}

module _ (plan : Plan) where
  -- one more answer
  planned-on : (before xs : List Exchange) (x : Exchange) → AreByPlan plan before xs → x.answer ≡ plan (before ++ xs) x.question → AreByPlan plan before (xs ++ (x ∷ []))
  planned-on before [] x h e = (e ∙ ap (λ l. plan l x.question) (append-nil before), tt)
  planned-on before (y ∷ ys) x h e = (h.0, planned-on (before ++ (y ∷ [])) ys x h.1 (e ∙ ap (λ l. plan l x.question) (sym (append_assoc before (y ∷ []) ys))))

  comes-planned : (asked : List Exchange) (decision : Decision) (outcome : Outcome) → Keeps asked decision → Comes (ByPlan plan) asked decision outcome → AreByPlan plan [] asked → AreByPlan plan [] outcome.after.asked
  comes-planned asked decision outcome keeps comes h = grind (arith, planned-on)

  module _ (token : ℕ → Token) (decide : State → Bracket → Decision) (recorded : IsRecorded decide) where
    pub reads-planned : (s : State) (parts : Parts) (t : State) → Reads token decide (ByPlan plan) s parts t → AreByPlan plan [] s.asked → AreByPlan plan [] t.asked
    reads-planned s Nil t k h = subst (λ (u : State). AreByPlan plan [] u.asked) (sym k) h
    reads-planned s (Single item after) t k h = reads-planned (moved k.0 s) after t k.2 h
    reads-planned s (Form opener inside closer formed after) t k h =
        reads-planned k.next after t k.after
        (comes-planned k.until.asked (decide k.until closer) _ (recorded.keeps k.until closer) k.comes (reads-planned (opened opener s) inside k.until k.inside h))
    reads-planned s (Closing closer after) t k h = reads-planned k.next after t k.after (comes-planned s.asked (decide s closer) _ (recorded.keeps s closer) k.comes h)
    reads-planned s (Opening opener after) t k h = reads-planned (opened opener s) after t k.1 h

  module _ (reader : Reader) where
    leaf-planned : (leaf : Leaf) (before after : Between) (events : List Ranged) → ReadsLeaf reader (ByPlan plan) leaf before events after → AreByPlan plan [] before.asked → AreByPlan plan [] after.asked
    leaf-planned leaf before after events k h =
        subst (λ (b : Between). AreByPlan plan [] b.asked) (sym k.after_is) (reads-planned (token reader leaf) (decide reader leaf) (decide-recorded reader leaf) (entering leaf before) k.parts k.last k.reads.reads h)

    pub all-planned : (segments : List Segment) (before after : Between) (events : List Ranged) → ReadsAll reader (ByPlan plan) segments before events after → AreByPlan plan [] before.asked → AreByPlan plan [] after.asked
    all-planned [] before after events k h = subst (λ (b : Between). AreByPlan plan [] b.asked) (sym k.1) h
    all-planned (Given r ∷ others) before after events k h = all-planned others before after k.0 k.1 h
    all-planned (Content leaf ∷ others) before after events k h = all-planned others k.2 after k.1 k.4 (leaf-planned leaf before k.2 k.0 k.3 h)

-- with the plan's answers the rest has some events
pub left-planned : (reader : Reader) (segments : List Segment) (expansion_left : ℕ) (plan : Plan) → AreLeavesInTurn (length reader.source) segments
    → (exchanges : List Exchange) × (events : List Ranged) × AreByPlan plan [] exchanges × Left reader segments expansion_left exchanges events
left-planned reader segments expansion_left plan turn =
    let before : Between = record { expansion_left = expansion_left; asked = [] } in
    let after = all_after reader plan segments before in
    let events = all_events reader plan segments before in
    let read = all-read reader (length reader.source) (λ leaf t. leaf-forward reader leaf (length reader.source) t) plan segments before turn in (
      after.asked,
      events,
      all-planned plan reader segments before after events read tt,
      record { after = after; reads = all-next reader (λ leaf. decide-recorded reader leaf) (ByPlan plan) after.asked [] segments before after events (sym (append-nil after.asked)) read; asked = refl },
    )
