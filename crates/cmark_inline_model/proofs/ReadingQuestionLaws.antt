-- The questions of each reading of a text: they are in order, about labels without a definition, and there are none if the reference
-- expansion limit is 0.
use Rattle.std.proofs.Common.{◌≡◌, inl, inr, ℕ, ◌≤◌, List, [], ◌∷◌, ◌++◌, length, sym, ap, subst, arith, ◌∙◌, append-nil, append_assoc, rules}
use Rattle.cmark_grammar.specs.BracketDecisions.{decide}
use Rattle.cmark_grammar.specs.BracketStates.{State, Decision, Settled, Asks}
use Rattle.cmark_grammar.specs.Event.{Ranged}
use Rattle.cmark_grammar.specs.InlineTokens.{token}
use Rattle.cmark_grammar.specs.Items.{Bracket, Closes}
use Rattle.cmark_grammar.specs.LeafReading.{Between, entering, ReadsLeaf}
use Rattle.cmark_grammar.specs.LeafText.{Stretch, Leaf, InTurn, begin_of, end_of}
use Rattle.cmark_grammar.specs.Questions.{Question, Exchange, Saying}
use Rattle.cmark_grammar.specs.Readers.{Reader}
use Rattle.cmark_grammar.specs.SpanDocuments.{Segment, Given, Content, segments, ReadsAll, Profile, reader_of, at_start, IsReading}
use Rattle.cmark_block_model.proofs.RangeLaws.{derived-order}
use Rattle.cmark_inline_model.specs.LinkRules.{IsQuestion}
use Rattle.cmark_inline_model.specs.ReadingQuestions.{HasCloser, IsCloser, PutInTurn, AllQuestions}
use Rattle.cmark_inline_model.proofs.QuestionsInTurn.{turn-wide, turn-both, turn-none, asked-both, BeginUpTo, begin-drop, IsAbout, AsksAbout, KeepsTurn, reading-turns}
use Rattle.cmark_inline_model.proofs.DecisionLaws.{decide-recorded, decide-apart, decide-pays}
use Rattle.cmark_inline_model.proofs.DecisionShape.{IsPut, DecisionShape, decide-shape}
use Rattle.cmark_inline_model.proofs.ForwardLaws.{is-place, closer-is, leaf-forward, leaf-ranges}
use Rattle.cmark_inline_model.proofs.LeafPlaces.{lower, end-within, leaf-up}
use Rattle.cmark_inline_model.proofs.ReadingLaws.{reading-stands}
use Rattle.cmark_inline_model.proofs.SegmentLaws.{LeavesRise, segments-rise}

module _ (reader : Reader) where
  module _ (leaf : Leaf) (size : ℕ) (turn : InTurn 0 leaf.stretches size) where
    put_about : (s : State) (closer : Bracket) (q : Question) → closer.end ≤ end_of leaf.stretches → IsPut reader leaf s closer q → IsAbout s closer q
    put_about s closer q w h = record {
      start = λ at k. (let b = subst (BeginUpTo at) h.takes.is_taken.there (begin-drop at h.taken.nearer s.openers k) in let x = b.0 in
          let e : q.start ≡ h.takes.is_taken.opener.bracket.start = h.start ∙ ap (λ (y : Bracket). y.start) (sym h.takes.is_taken.bracket) in omega arith);
      end = (is-place reader leaf size turn closer q.end w h.ends).0;
      some = h.some;
    }

    asks_about : (s : State) (closer : Bracket) → token reader leaf s.at ≡ Closes closer → AsksAbout (IsQuestion reader) s closer (decide reader leaf s closer)
    asks_about s closer e = go (decide reader leaf s closer) (decide-shape reader leaf s closer)
      where
        within : closer.end ≤ end_of leaf.stretches
        within = let c = closer-is reader leaf size turn s.at closer e in let x = c.1 in let y = c.2 in omega arith

        go : (d : Decision) → DecisionShape reader leaf s closer d → AsksAbout (IsQuestion reader) s closer d
        go (Settled o) h = tt
        go (Asks q answered) h = (put_about s closer q within h.0.1, h.0.0)

    pub leaf-keeps : (Says : Saying) → KeepsTurn (token reader leaf) (decide reader leaf) Says (end_of leaf.stretches) (IsQuestion reader)
    leaf-keeps Says = record {
      forward = leaf-forward reader leaf size turn;
      recorded = decide-recorded reader leaf;
      apart = decide-apart reader leaf;
      ranges = leaf-ranges reader leaf size turn;
      limit = decide-pays reader leaf;
      asks = asks_about;
      closes = λ at closer e. (let c = closer-is reader leaf size turn at closer e in let x = c.1 in omega arith);
    }

  -- from one place to another questions were added, in turn
  pub record Adds (Closer : ℕ → Type 0) (from to : ℕ) (before after : Between) : Type 0 where
    pub more : List Exchange
    pub added : after.asked ≡ before.asked ++ more
    pub turn : PutInTurn Closer from more to
    pub right : AllQuestions (IsQuestion reader) more
    pub less : after.expansion_left ≤ before.expansion_left
    pub none : before.expansion_left ≡ 0 → more ≡ []

  module _ (Says : Saying) where
    pub widen : (Closer : ℕ → Type 0) (stretches : List Stretch) (from mid at : ℕ) (asked : List Exchange) → InTurn from stretches mid → at ≤ end_of stretches
        → PutInTurn Closer (begin_of stretches) asked at → PutInTurn Closer from asked mid
    widen Closer [] from mid at asked h w k =
        let none : asked ≡ [] = turn-none Closer 0 asked (turn-wide Closer Closer (λ place c. c) 0 0 asked at 0 (omega arith) (omega (arith, w)) k) in
        subst (λ l. PutInTurn Closer from l mid) (sym none) h
    widen Closer (s ∷ more) from mid at asked h w k =
        let x = h.0 in
        let e = end-within (s ∷ more) mid (lower from 0 (s ∷ more) mid (omega arith) h) in
        turn-wide Closer Closer (λ place c. c) from s.start asked at mid (omega arith) (omega arith) k

    leaf_adds : (leaf : Leaf) (from mid : ℕ) (before after : Between) (events : List Ranged) → InTurn from leaf.stretches mid → ReadsLeaf reader Says leaf before events after
        → Adds (HasCloser reader leaf) from mid before after
    leaf_adds leaf from mid before after events h k =
        let turn = lower from 0 leaf.stretches mid (omega arith) h in
        let start = entering leaf before in
        let t = reading-turns (token reader leaf) (decide reader leaf) Says (end_of leaf.stretches) (IsQuestion reader) (leaf-keeps leaf mid turn Says) start k.parts k.last tt k.reads.reads in
        let stands = reading-stands (token reader leaf) (decide reader leaf) Says (end_of leaf.stretches) (leaf-ranges reader leaf mid turn) start k.parts k.last start.at (omega arith)
        (leaf-up leaf.stretches mid turn) k.reads.reads in
        record {
          more = t.more;
          added = ap (λ (b : Between). b.asked) k.after_is ∙ t.added;
          turn = widen (HasCloser reader leaf) leaf.stretches from mid k.last.at t.more h stands.1 t.turn;
          right = t.right;
          less = (let e : after.expansion_left ≡ k.last.expansion_left = ap (λ (b : Between). b.expansion_left) k.after_is in let l = t.less in omega arith);
          none = t.none;
        }

    pub all-add : (others : List Segment) (from to : ℕ) (before after : Between) (events : List Ranged) → LeavesRise from others to → ReadsAll reader Says others before events after
        → Adds (IsCloser reader others) from to before after
    all-add [] from to before after events h k = grind (arith, append-nil)
    all-add (Given r ∷ others) from to before after events h k = grind (arith, all-add others from to before after k.0 h k.1)
    all-add (Content leaf ∷ others) from to before after events h k =
        let a = leaf_adds leaf from h.0 before k.2 k.0 h.1 k.3 in
        let i = all-add others h.0 to k.2 after k.1 h.2 k.4 in
        let Closer = IsCloser reader (Content leaf ∷ others) in
        let first = turn-wide (HasCloser reader leaf) Closer (λ place c. inl c) from from a.more h.0 h.0 (omega arith) (omega arith) a.turn in
        let second = turn-wide (IsCloser reader others) Closer (λ place c. inr c) h.0 h.0 i.more to to (omega arith) (omega arith) i.turn in
        record {
          more = a.more ++ i.more;
          added = i.added ∙ ap (λ l. l ++ i.more) a.added ∙ append_assoc before.asked a.more i.more;
          turn = turn-both Closer from h.0 to a.more i.more first second;
          right = asked-both (IsQuestion reader) a.more i.more a.right i.right;
          less = (let x = a.less in let y = i.less in omega arith);
          none = λ e. (let x = a.less in ap (λ l. l ++ i.more) (a.none e) ∙ i.none (omega arith));
        }

-- ## Whole texts

module _ (text : List ℕ) (profile : Profile) (exchanges : List Exchange) (events : List Ranged) (h : IsReading text profile exchanges events) where
  abbrev reader : Reader
  reader = reader_of text profile h.document

  adds : Adds reader (IsCloser reader (segments h.document)) 0 (length text) (at_start profile) h.after
  adds = search (rules, all-add, segments-rise, derived-order)

  pub reading-turn : PutInTurn (IsCloser reader (segments h.document)) 0 exchanges (length text)
  reading-turn = subst (λ l. PutInTurn (IsCloser reader (segments h.document)) 0 l (length text)) (sym adds.added ∙ h.asked) adds.turn

  pub reading-asked : AllQuestions (IsQuestion reader) exchanges
  reading-asked = subst (AllQuestions (IsQuestion reader)) (sym adds.added ∙ h.asked) adds.right

  pub reading-silent-at-none : profile.reference_expansion_limit ≡ 0 → exchanges ≡ []
  reading-silent-at-none e = sym h.asked ∙ adds.added ∙ adds.none e
