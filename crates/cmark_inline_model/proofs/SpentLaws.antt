-- Where nothing of the reference expansion limit is left, no further question is put.
use Rattle.std.specs.Prelude.{◌-◌, sum}
use Rattle.std.proofs.Common.{◌≡◌, ℕ, ◌+◌, ◌≤◌, true, false, List, [], ◌∷◌, ◌++◌, sym, ap, subst, arith, ◌∙◌}
use Rattle.std.proofs.lemmas.Bool.{eq-eqb}
use Rattle.cmark_grammar.specs.BlockDocument.{BlockDocument}
use Rattle.cmark_grammar.specs.BracketDecisions.{decide}
use Rattle.cmark_grammar.specs.BracketReading.{Comes, Reads}
use Rattle.cmark_grammar.specs.BracketStates.{State, moved, opened, Result, StaysText, Forms, Outcome, Decision, Settled, Asks}
use Rattle.cmark_grammar.specs.Event.{Ranged}
use Rattle.cmark_grammar.specs.InlineReading.{inline_events}
use Rattle.cmark_grammar.specs.InlineTokens.{token}
use Rattle.cmark_grammar.specs.Items.{Bracket}
use Rattle.cmark_grammar.specs.LeafReading.{Between, entering}
use Rattle.cmark_grammar.specs.LeafText.{Leaf}
use Rattle.cmark_grammar.specs.Parts.{Parts, Nil, Single, Form, Closing, Opening, openings}
use Rattle.cmark_grammar.specs.Questions.{Saying}
use Rattle.cmark_grammar.specs.Readers.{Reader}
use Rattle.cmark_inline_model.specs.SiblingsModel.{spans_in}
use Rattle.cmark_grammar.specs.SpanDocuments.{Segment, Given, Content, segments, ReadsAll, Profile, reader_of, at_start}
use Rattle.cmark_inline_model.specs.ReferenceExpansion.{cost, costs, Spends, PaysBy, Pays}
use Rattle.cmark_inline_model.specs.LinkRules.{AsksRightly}
use Rattle.cmark_inline_model.specs.Progress.{Keeps}
use Rattle.cmark_inline_model.specs.ReadingLinks.{reference_costs}
use Rattle.cmark_inline_model.proofs.CostLists.{total, sum-total, total-append, spends-within}
use Rattle.cmark_inline_model.proofs.DecisionLaws.{decide-recorded, decide-pays}
use Rattle.cmark_inline_model.proofs.DecisionRules.{asks-rightly}
use Rattle.cmark_inline_model.proofs.LinkNesting.{always-comes}
use Rattle.cmark_inline_model.proofs.ReadingLaws.{reading-spends}
use Rattle.cmark_inline_model.proofs.SegmentLaws.{AreNeither, segments-neither}
use Rattle.cmark_inline_model.proofs.SiblingsOne.{spans-one}
use Rattle.cmark_inline_model.proofs.SpanCosts.{costs_in, spans-costs, events-costs}

-- nothing is taken off nothing
spends_none : (cs : List ℕ) (after : ℕ) → Spends 0 cs after → after ≡ 0
spends_none [] after h = h
spends_none (c ∷ cs) after h = absurd (let a = h.0 in let d : ⊥ = omega arith in d)

pays_none : (before : ℕ) (r : Result) (after : ℕ) → before ≡ 0 → PaysBy before r after → after ≡ 0
pays_none before StaysText after e h = h ∙ e
pays_none before (Forms nearer formed) after e h = spends_none (cost formed) after (subst (λ n. Spends n (cost formed) after) e h)

-- no question came between two states, and nothing is left in the second
pub record IsSilent (s t : State) : Type 0 where
  pub asked : t.asked ≡ s.asked
  pub expansion_left : t.expansion_left ≡ 0

module _ (reader : Reader) (Says : Saying) where
  module _ (leaf : Leaf) where
    comes_silent : (s : State) (closer : Bracket) (o : Outcome) → s.expansion_left ≡ 0 → Comes Says s.asked (decide reader leaf s closer) o → IsSilent s o.after
    comes_silent s closer o e h =
        let d = decide reader leaf s closer in
        let keeps = decide-recorded reader leaf in
        let limit = decide-pays reader leaf in
        record {
          asked = go d (asks-rightly reader leaf s closer) (keeps.keeps s closer) h;
          expansion_left = pays_none s.expansion_left o.result o.after.expansion_left e (always-comes (Pays s.expansion_left) Says s.asked d o (limit.pays s closer) h);
        }
      where
        go : (d : Decision) → AsksRightly reader s d → Keeps s.asked d → Comes Says s.asked d o → o.after.asked ≡ s.asked
        go (Settled outcome) a k c = ap (λ (x : Outcome). x.after.asked) c ∙ k
        go (Asks question answered) a k c = absurd (let x : true ≡ false = sym (eq-eqb s.expansion_left 0 e) ∙ a.1 in let n : ⊥ = cc in n)

    pub reading-silent : (s : State) (parts : Parts) (t : State) → s.expansion_left ≡ 0 → Reads (token reader leaf) (decide reader leaf) Says s parts t → IsSilent s t
    reading-silent s Nil t e h = record { asked = ap (λ (x : State). x.asked) h; expansion_left = ap (λ (x : State). x.expansion_left) h ∙ e }
    reading-silent s (Single item after) t e h = let i = reading-silent (moved h.0 s) after t e h.2 in record { asked = i.asked; expansion_left = i.expansion_left }
    reading-silent s (Form opener inside closer formed after) t e h =
        let i = reading-silent (opened opener s) inside h.until e h.inside in
        let c = comes_silent h.until closer (record { result = Forms (openings inside) formed; after = h.next }) i.expansion_left h.comes in
        let k = reading-silent h.next after t c.expansion_left h.after in
        record { asked = k.asked ∙ c.asked ∙ i.asked; expansion_left = k.expansion_left }
    reading-silent s (Closing closer after) t e h =
        let c = comes_silent s closer (record { result = StaysText; after = h.next }) e h.comes in
        let k = reading-silent h.next after t c.expansion_left h.after in
        record { asked = k.asked ∙ c.asked; expansion_left = k.expansion_left }
    reading-silent s (Opening opener after) t e h = let i = reading-silent (opened opener s) after t e h.1 in record { asked = i.asked; expansion_left = i.expansion_left }

  all_silent : (others : List Segment) (before after : Between) (events : List Ranged) → before.expansion_left ≡ 0 → ReadsAll reader Says others before events after → after.asked ≡ before.asked
  all_silent [] before after events e h = ap (λ (b : Between). b.asked) h.1
  all_silent (Given r ∷ others) before after events e h = all_silent others before after h.0 e h.1
  all_silent (Content leaf ∷ others) before after events e h =
      let k = reading-silent leaf (entering leaf before) h.3.parts h.3.last e h.3.reads.reads in
      let left : h.2.expansion_left ≡ 0 = ap (λ (b : Between). b.expansion_left) h.3.after_is ∙ k.expansion_left in
      all_silent others h.2 after h.1 left h.4 ∙ ap (λ (b : Between). b.asked) h.3.after_is ∙ k.asked

  -- at least the cost of the references among the events is taken off what is left
  record IsTaken (limit spent : ℕ) (after : Between) (events : List Ranged) : Type 0 where
    pub more : ℕ
    pub left : after.expansion_left ≡ limit - (spent + more)
    pub all : total (reference_costs [] events) ≤ more

  all_taken : (limit spent : ℕ) (others : List Segment) (before after : Between) (events : List Ranged) → before.expansion_left ≡ limit - spent → AreNeither others
      → ReadsAll reader Says others before events after → IsTaken limit spent after events
  all_taken limit spent [] before after events e n h = grind arith
  all_taken limit spent (Given r ∷ others) before after events e n h = grind (arith, total, all_taken limit spent others before after h.0 e n.1 h.1)
  all_taken limit spent (Content leaf ∷ others) before after events e n h =
      let parts = h.3.parts in
      let spans = spans_in reader.options parts in
      let own : h.0 ≡ inline_events reader.source spans = h.3.events_are ∙ ap (inline_events reader.source) (spans-one reader.options parts h.3.spans h.3.are) in
      let f : events ≡ inline_events reader.source spans ++ h.1 = h.5 ∙ ap (λ l. l ++ h.1) own in
      let s = spends-within limit spent (costs parts) before.expansion_left h.3.last.expansion_left e
      (reading-spends (token reader leaf) (decide reader leaf) Says (decide-pays reader leaf) (entering leaf before) parts h.3.last h.3.reads.reads) in
      let fewer = spans-costs reader.options parts in
      let left : h.2.expansion_left ≡ limit - (spent + total (costs parts)) = ap (λ (b : Between). b.expansion_left) h.3.after_is ∙ s.left in
      let i = all_taken limit (spent + total (costs parts)) others h.2 after h.1 left n h.4 in
      let t : total (reference_costs [] events) ≡ total (costs_in spans) + total (reference_costs [] h.1) =
      ap (λ es. total (reference_costs [] es)) f ∙ ap total (events-costs reader.source spans [] h.1) ∙ total-append (costs_in spans) (reference_costs [] h.1) in
      let less = fewer.less in
      let rest = i.all in
      let l = i.left in
      record { more = total (costs parts) + i.more; left = omega arith; all = omega arith }

first_neither : (first others : List Segment) → AreNeither (first ++ others) → AreNeither first
first_neither [] others h = tt
first_neither (Given r ∷ first) others h = (h.0, first_neither first others h.1)
first_neither (Content leaf ∷ first) others h = first_neither first others h

pub leaves-silent : (text : List ℕ) (profile : Profile) (document : BlockDocument) (Says : Saying) (first others : List Segment) (earlier later : List Ranged) (between after : Between)
    → segments document ≡ first ++ others → ReadsAll (reader_of text profile document) Says first (at_start profile) earlier between
    → ReadsAll (reader_of text profile document) Says others between later after → profile.reference_expansion_limit ≤ sum (reference_costs [] earlier) → after.asked ≡ between.asked
leaves-silent text profile document Says first others earlier later between after e h k spent =
    let reader = reader_of text profile document in
    let neither = first_neither first others (subst AreNeither e (segments-neither document)) in
    let taken = all_taken reader Says profile.reference_expansion_limit 0 first (at_start profile) between earlier (omega arith) neither h in
    let s = sum-total (reference_costs [] earlier) in
    let left = taken.left in
    let all = taken.all in
    all_silent reader Says others between after later (omega arith) k
