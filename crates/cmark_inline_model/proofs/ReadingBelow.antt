-- Each question of a text is put while the references before it, in all leaves, have not used up the limit.
use Rattle.std.specs.Prelude.{◌-◌}
use Rattle.std.proofs.Common.{◌≡◌, inl, inr, ℕ, ◌+◌, ◌<◌, ◌≤◌, List, [], ◌∷◌, ◌++◌, length, refl, sym, ap, subst, arith, ◌∙◌, append-nil, append_assoc}
use Rattle.cmark_grammar.specs.BracketDecisions.{decide}
use Rattle.cmark_grammar.specs.BracketStates.{State}
use Rattle.cmark_grammar.specs.Event.{Ranged}
use Rattle.cmark_grammar.specs.InlineReading.{inline_events}
use Rattle.cmark_grammar.specs.InlineTokens.{token}
use Rattle.cmark_grammar.specs.LeafReading.{Between, entering, ReadsLeaf}
use Rattle.cmark_grammar.specs.LeafText.{Stretch, Leaf, InTurn, begin_of, end_of}
use Rattle.cmark_grammar.specs.Questions.{Exchange, Saying, IsNext}
use Rattle.cmark_grammar.specs.Readers.{Reader}
use Rattle.cmark_inline_model.specs.SiblingsModel.{spans_in}
use Rattle.cmark_grammar.specs.SpanDocuments.{Segment, Given, Content, segments, ReadsAll, Profile, reader_of, at_start, IsReading}
use Rattle.cmark_block_model.proofs.RangeLaws.{derived-order}
use Rattle.cmark_inline_model.specs.ReferenceExpansion.{costs}
use Rattle.cmark_inline_model.specs.LinkRules.{IsQuestion}
use Rattle.cmark_inline_model.specs.ReadingLinks.{spent_before}
use Rattle.cmark_inline_model.specs.ReadingQuestions.{HasCloser, IsCloser, PutInTurn}
use Rattle.cmark_inline_model.proofs.QuestionsBelow.{reading-below}
use Rattle.cmark_inline_model.proofs.QuestionsInTurn.{turn-wide, turn-both, turn-within}
use Rattle.cmark_inline_model.proofs.CostLists.{total, spends-within}
use Rattle.cmark_inline_model.proofs.DecisionLaws.{decide-pays}
use Rattle.cmark_inline_model.proofs.ForwardLaws.{leaf-ranges}
use Rattle.cmark_inline_model.proofs.LeafPlaces.{lower, leaf-up}
use Rattle.cmark_inline_model.proofs.ReadingLaws.{reading-spends, reading-stands}
use Rattle.cmark_inline_model.proofs.ReadingOrders.{no-parts}
use Rattle.cmark_inline_model.proofs.ReadingQuestionLaws.{leaf-keeps, widen}
use Rattle.cmark_inline_model.proofs.SegmentLaws.{AreNeither, segments-neither, LeavesRise, segments-rise}
use Rattle.cmark_inline_model.proofs.SiblingsOne.{spans-one}
use Rattle.cmark_inline_model.proofs.SpentEvents.{spent_to, spans-spent, spent-less, spent-none, events-spent}
use Rattle.cmark_inline_model.proofs.TokenLaws.{token-ends}

module _ (reader : Reader) (Says : Saying) where
  leaf_events : (leaf : Leaf) (before after : Between) (events : List Ranged) (h : ReadsLeaf reader Says leaf before events after) → events ≡ inline_events reader.source (spans_in reader.options h.parts)
  leaf_events leaf before after events h = h.events_are ∙ ap (inline_events reader.source) (spans-one reader.options h.parts h.spans h.are)

  -- in the events of a leaf references cost no more than in its parts
  leaf_spent : (leaf : Leaf) (before after : Between) (events later : List Ranged) (h : ReadsLeaf reader Says leaf before events after) (place : ℕ)
      → spent_before place (events ++ later) ≤ spent_to place h.parts + spent_before place later
  leaf_spent leaf before after events later h place =
      let spans = spans_in reader.options h.parts in
      let e = ap (λ es. spent_before place (es ++ later)) (leaf_events leaf before after events h) in
      let f = events-spent place reader.source spans later in
      let s = spans-spent place reader.options h.parts in
      omega arith

  -- and nothing before the leaf
  leaf_none : (leaf : Leaf) (from mid : ℕ) (before after : Between) (events : List Ranged) (h : ReadsLeaf reader Says leaf before events after) → InTurn from leaf.stretches mid → (place : ℕ) → place < from
      → spent_to place h.parts ≡ 0
  leaf_none leaf from mid before after events h turn place w = go leaf.stretches refl
    where
      zero_turn : InTurn 0 leaf.stretches mid
      zero_turn = lower from 0 leaf.stretches mid (omega arith) turn

      start : State
      start = entering leaf before

      go : (st : List Stretch) → leaf.stretches ≡ st → spent_to place h.parts ≡ 0
      go [] e = grind (arith, spent_to, no-parts, token-ends, zero_turn, start)
      go (s ∷ more) e =
          let stands = reading-stands (token reader leaf) (decide reader leaf) Says (end_of leaf.stretches) (leaf-ranges reader leaf mid zero_turn) start h.parts h.last start.at (omega arith)
          (leaf-up leaf.stretches mid zero_turn) h.reads.reads in
          let b : begin_of leaf.stretches ≡ s.start = ap begin_of e in
          let t = subst (λ st. InTurn from st mid) e turn in
          let x = t.0 in
          spent-none place start.at h.parts h.last.at stands.0 (omega arith)

  -- the events after an offset cost nothing before it
  all_none : (others : List Segment) (from to : ℕ) (before after : Between) (events : List Ranged) → LeavesRise from others to → AreNeither others → ReadsAll reader Says others before events after
      → (place : ℕ) → place < from → spent_before place events ≡ 0
  all_none [] from to before after events r n h place w = ap (spent_before place) h.0
  all_none (Given g ∷ others) from to before after events r n h place w = grind (arith, all_none others from to before after h.0 r n.1 h.1 place w)
  all_none (Content leaf ∷ others) from to before after events r n h place w =
      let up = up_turn from leaf.stretches r.0 r.1 in
      let i = all_none others r.0 to h.2 after h.1 r.2 n h.4 place (omega arith) in
      let e = ap (spent_before place) h.5 in
      let s = leaf_spent leaf before h.2 h.0 h.1 h.3 place in
      let z = leaf_none leaf from r.0 before h.2 h.0 h.3 r.1 place w in
      omega arith
    where
      up_turn : (low : ℕ) (st : List Stretch) (high : ℕ) → InTurn low st high → low ≤ high
      up_turn low [] high k = k
      up_turn low (s ∷ st) high k = let a = k.0 in let b = k.1 in let c = up_turn s.end st high k.2 in omega arith

  -- a closing bracket of these leaves before which less than the limit is spent
  abbrev IsBelow : List Segment → (limit spent : ℕ) → List Ranged → ℕ → Type 0
  IsBelow others limit spent events place = IsCloser reader others place × (spent + spent_before place events < limit)

  record Adds (others : List Segment) (limit spent : ℕ) (events : List Ranged) (from to : ℕ) (before after : Between) : Type 0 where
    pub more : List Exchange
    pub added : after.asked ≡ before.asked ++ more
    pub below : PutInTurn (IsBelow others limit spent events) from more to

  all_below : (limit spent : ℕ) (others : List Segment) (from to : ℕ) (before after : Between) (events : List Ranged) → before.expansion_left ≡ limit - spent → LeavesRise from others to → AreNeither others
      → ReadsAll reader Says others before events after → Adds others limit spent events from to before after
  all_below limit spent [] from to before after events e r n h =
      record { more = []; added = ap (λ (b : Between). b.asked) h.1 ∙ sym (append-nil before.asked); below = r }
  all_below limit spent (Given g ∷ others) from to before after events e r n h = grind (arith, turn-wide, all_below limit spent others from to before after h.0 e r n.1 h.1)
  all_below limit spent (Content leaf ∷ others) from to before after events e r n h =
      let turn = lower from 0 leaf.stretches r.0 (omega arith) r.1 in
      let start = entering leaf before in
      let k = reading-below (token reader leaf) (decide reader leaf) Says (end_of leaf.stretches) (IsQuestion reader) (leaf-keeps reader leaf r.0 turn Says) start h.3.parts h.3.last tt
      (leaf-up leaf.stretches r.0 turn) h.3.reads.reads in
      let stands = reading-stands (token reader leaf) (decide reader leaf) Says (end_of leaf.stretches) (leaf-ranges reader leaf r.0 turn) start h.3.parts h.3.last start.at (omega arith)
      (leaf-up leaf.stretches r.0 turn) h.3.reads.reads in
      let own : ℕ → Type 0 = λ place. HasCloser reader leaf place × (spent_to place h.3.parts < before.expansion_left) in
      let wide = widen reader Says own leaf.stretches from r.0 h.3.last.at k.turns.more r.1 stands.1 k.below in
      let s = spends-within limit spent (costs h.3.parts) before.expansion_left h.3.last.expansion_left e
      (reading-spends (token reader leaf) (decide reader leaf) Says (decide-pays reader leaf) start h.3.parts h.3.last h.3.reads.reads) in
      let left : h.2.expansion_left ≡ limit - (spent + total (costs h.3.parts)) = ap (λ (b : Between). b.expansion_left) h.3.after_is ∙ s.left in
      let i = all_below limit (spent + total (costs h.3.parts)) others r.0 to h.2 after h.1 left r.2 n h.4 in
      let Whole : ℕ → Type 0 = IsBelow (Content leaf ∷ others) limit spent events in
      let first = turn-within own Whole from k.turns.more r.0
      (λ place a b q. (
        inl q.0,
        (let c = ap (spent_before place) h.5 in let d = leaf_spent leaf before h.2 h.0 h.1 h.3 place in
            let z = all_none others r.0 to h.2 after h.1 r.2 n h.4 place b in let x = q.1 in omega arith),
      )) wide in
      let second = turn-within (IsBelow others limit (spent + total (costs h.3.parts)) h.1) Whole r.0 i.more to
      (λ place a b q. (inr q.0, (let c = ap (spent_before place) h.5 in let d = leaf_spent leaf before h.2 h.0 h.1 h.3 place in let l = spent-less place h.3.parts in let x = q.1 in omega arith))) i.below in
      record {
        more = k.turns.more ++ i.more;
        added = i.added ∙ ap (λ l. l ++ i.more) (ap (λ (b : Between). b.asked) h.3.after_is ∙ k.turns.added) ∙ append_assoc before.asked k.turns.more i.more;
        below = turn-both Whole from r.0 to k.turns.more i.more first second;
      }

pub reading-asked-below : (text : List ℕ) (profile : Profile) (exchanges : List Exchange) (events : List Ranged) (h : IsReading text profile exchanges events)
    → PutInTurn (λ place. IsCloser (reader_of text profile h.document) (segments h.document) place × (spent_before place events < profile.reference_expansion_limit)) 0 exchanges (length text)
reading-asked-below text profile exchanges events h =
    let reader = reader_of text profile h.document in
    let Closer : ℕ → Type 0 = λ place. IsCloser reader (segments h.document) place × (spent_before place events < profile.reference_expansion_limit) in
    let a = all_below reader (IsNext exchanges) profile.reference_expansion_limit 0 (segments h.document) 0 (length text) (at_start profile) h.after events (omega arith)
    (segments-rise 0 h.document (length text) (derived-order text profile.options profile.lookup h.document h.derives)) (segments-neither h.document) h.reads in
    subst (λ l. PutInTurn Closer 0 l (length text)) (sym a.added ∙ h.asked)
    (turn-wide (λ place. IsCloser reader (segments h.document) place × (0 + spent_before place events < profile.reference_expansion_limit)) Closer (λ place q. (q.0, (let x = q.1 in omega arith))) 0 0 a.more (length text) (length text) (omega arith) (omega arith) a.below)
