-- If a call may run out of memory, the next event is not the end of an element.
use Rattle.std.specs.Prelude.{◌-◌}
use Rattle.std.proofs.Common.{◌≡◌, ◌≢◌, ℕ, ◌+◌, ◌<◌, true, false, List, [], ◌∷◌, ◌++◌, length, Option, refl, sym, ap, ◌∙◌, subst, arith}
use Rattle.cmark_grammar.specs.Answers.{Lookup}
use Rattle.cmark_grammar.specs.Event.{Event, End, Ranged}
use Rattle.cmark_grammar.specs.LeafReading.{Between, ReadsLeaf as ReadsGrammarLeaf}
use Rattle.cmark_grammar.specs.LeafText.{Leaf, Stretch, bytes_from, size_of}
use Rattle.cmark_grammar.specs.Questions.{Exchange, Saying, IsNext}
use Rattle.cmark_grammar.specs.Readers.{Reader}
use Rattle.cmark_grammar.specs.SpanDocuments.{Segment, Given, Content, Left, ReadsAll}
use Rattle.cmark_grammar.specs.TagEnd.{TagEnd}
use Rattle.cmark_slot_events.specs.Events.{events_to_come}
use Rattle.cmark_inline.specs.declared.callback.BrokenLink.{BrokenLink}
use Rattle.cmark_slot_events.specs.declared.leaf_events.LeafEvents.{LeafEvents}
use Rattle.cmark_inline_model.specs.FirstEvents.{BeginWithEnd, BeginWithoutEnd, IsEnd}
use Rattle.cmark_inline_model.specs.LeafModel.{HaveLineEnds}
use Rattle.cmark_inline_model.specs.PlacedLeaves.{IsPlaced}
use Rattle.cmark_inline_model.specs.TextPlaces as places
use Rattle.cmark_inline_model.proofs.FirstEvents.{leaf-first, leaf-none, leaf-same, leaf-some}
use Rattle.cmark_values.specs.declared.text.CowStr.{CowStr}
use Rattle.cmark_block_walk.specs.Walking as walking
use Rattle.cmark_block_walk.specs.Walking.{MayBeginWithEnd}
use Rattle.cmark_event_walk.specs.declared.span_walk.SpanWalk.{SpanWalk}
use Rattle.cmark_event_walk.specs.Walking.{ArePlaced, EntersLeaf, IsReadBy, KeepsLeft, NoEndIsNext, ReadsLeaf, Remains, expansion_left_of, spans_to_come}
use Rattle.cmark_event_walk.proofs.LeafReads.{whole-size}
use Rattle.cmark_event_walk.proofs.Readings.{outside-remains, remains-outside}
use Rattle.cmark_event_walk.proofs.Walks.{closed, closed-at}

-- ## Events

is-end : (event : Event) → IsEnd event → (tag : TagEnd) × (event ≡ End tag)
is-end (End tag) i = (tag, refl)
is-end _ i = absurd i

without-end : (events : List Ranged) → events ≢ [] → (BeginWithEnd events → ⊥) → BeginWithoutEnd events
without-end [] some n = absurd (some refl)
without-end (r ∷ others) some n = n

without-append : (front later : List Ranged) → BeginWithoutEnd front → BeginWithEnd (front ++ later) → ⊥
without-append [] later w b = w
without-append (r ∷ others) later w b = w b

-- ## Leaves

some-size : (source : List ℕ) (ss : List Stretch) → HaveLineEnds source ss → ss ≢ [] → 0 < size_of ss
some-size source [] h some = absurd (some refl)
some-size source (s ∷ ss) h some = let a : s.start < s.end = h.0 in (let q : 0 < (s.end - s.start) + size_of ss = omega (arith, a) in q)

-- a leaf with a stretch has a text
text-some : (reader : Reader) (leaf : Leaf) → IsPlaced reader leaf → leaf.stretches ≢ [] → places.text_of reader leaf ≢ []
text-some reader leaf placed some none =
    let size = some-size reader.source leaf.stretches placed.lines some in
    let n = whole-size reader leaf placed in
    let m = ap length none in
    omega (arith, size, n, m)

text-none : (reader : Reader) (leaf : Leaf) → leaf.stretches ≡ [] → places.text_of reader leaf ≡ []
text-none reader leaf e = ap (λ (ss : List Stretch). bytes_from reader.source ss 0) e

leaf-begins : (reader : Reader) (Says : Saying) (leaf : Leaf) (before : Between) (spans : List Ranged) (after : Between) → IsPlaced reader leaf → leaf.stretches ≢ [] → ReadsGrammarLeaf reader Says leaf before spans after → BeginWithoutEnd spans
leaf-begins reader Says leaf before spans after placed some h =
    without-end spans (leaf-some reader Says leaf before spans after placed.turn (text-some reader leaf placed some) h) (leaf-first reader Says leaf before spans after h)

-- the events and leaves begin with no end and with no leaf without a text, so their events do not begin with an end
segments-begin : (reader : Reader) (Says : Saying) (left : List Segment) (before after : Between) (events : List Ranged) → ArePlaced reader left → (MayBeginWithEnd left → ⊥) → ReadsAll reader Says left before events after → BeginWithEnd events → ⊥
segments-begin reader Says [] before after events placed n h b = subst BeginWithEnd h.0 b
segments-begin reader Says (Given r ∷ others) before after events placed n h b = n (is-end r.event (subst BeginWithEnd h.2 b))
segments-begin reader Says (Content leaf ∷ others) before after events placed n h b =
    without-append h.0 h.1 (leaf-begins reader Says leaf before h.0 h.2 placed.0.placed n h.3) (subst BeginWithEnd h.5 b)

-- ## The walk

module _ {E F : Type 0} (replacement : E → Lookup) (reader : Reader) where
  -- if the walk is in a leaf whose next event is not an end, no end is next
  pub spans-begin : (walk : SpanWalk E F) → walk.in_leaf ≡ true → BeginWithoutEnd (events_to_come walk.leaf walk.events) → NoEndIsNext replacement reader walk
  spans-begin walk inside w exchanges events m b = without-append (events_to_come walk.leaf walk.events) m.later w (subst BeginWithEnd (m.are ∙ ap (λ z. spans_to_come z walk ++ m.later) inside) b)

  -- if the walk is in no leaf and the walk over blocks has no end next, no end is next
  pub blocks-begin : (walk : SpanWalk E F) → walk.in_leaf ≡ false → walking.NoEndIsNext walk.walk → NoEndIsNext replacement reader walk
  blocks-begin walk out n exchanges events m b =
      let by = m.read_by in
      let left = remains-outside replacement reader walk by out exchanges events m in
      segments-begin reader (IsNext exchanges) by.left (record { expansion_left = expansion_left_of walk; asked = [] }) left.after events by.placed (n by.left by.stands.blocks.remains) left.reads b

  -- if the leaf has no more events, the events that were left are still left
  pub closed-keeps : (walk : SpanWalk E F) (leaf_events : LeafEvents) → walk.in_leaf ≡ true → events_to_come walk.leaf walk.events ≡ [] → KeepsLeft replacement reader walk (closed walk leaf_events)
  closed-keeps walk leaf_events inside none exchanges events m =
      let r = m.read_by in
      let new : SpanWalk E F = closed walk leaf_events in
      let read : IsReadBy replacement reader new = record {
        left = r.left;
        stands = closed-at walk leaf_events r.left r.stands;
        placed = r.placed;
        same = record { source = r.same.source; options_are = r.same.options_are; lookup_is = r.same.lookup_is; definitions = r.same.definitions; footnotes_are = r.same.footnotes_are; callback = r.same.callback };
      } in
      let later : events ≡ m.later = m.are ∙ ap (λ z. spans_to_come z walk ++ m.later) inside ∙ ap (λ l. l ++ m.later) none in
      outside-remains replacement reader new read refl exchanges events (subst (λ l. Left reader r.left (expansion_left_of new) exchanges l) (sym later) m.reads)

  -- ## Before a leaf

  module _ (mid : SpanWalk E F) (out : mid.in_leaf ≡ false) (r : IsReadBy replacement reader mid) (leaf : Leaf) (others : List Segment) (is : r.left ≡ Content leaf ∷ others) where
    placed-leaf : ArePlaced reader (Content leaf ∷ others)
    placed-leaf = subst (ArePlaced reader) is r.placed

    left-leaf : (exchanges : List Exchange) (events : List Ranged) → Remains replacement reader mid exchanges events → Left reader (Content leaf ∷ others) (expansion_left_of mid) exchanges events
    left-leaf exchanges events m = subst (λ l. Left reader l (expansion_left_of mid) exchanges events) is (remains-outside replacement reader mid r out exchanges events m)

    -- if the leaf has a text, no end is next
    pub text-begins : leaf.stretches ≢ [] → NoEndIsNext replacement reader mid
    text-begins some exchanges events m b =
        let left = left-leaf exchanges events m in segments-begin reader (IsNext exchanges) (Content leaf ∷ others) (record { expansion_left = expansion_left_of mid; asked = [] }) left.after events placed-leaf some left.reads b

    module _ (Says : F → BrokenLink → Option (CowStr × CowStr) → F → Type 0) (old new : SpanWalk E F) (same : expansion_left_of old ≡ expansion_left_of mid) (enters : EntersLeaf others new) (reads : ReadsLeaf Says replacement reader leaf old new) where
      -- if the leaf has no text, the events that were left are still left
      empty-keeps : leaf.stretches ≡ [] → KeepsLeft replacement reader mid new
      empty-keeps empty exchanges events m =
          let left = left-leaf exchanges events m in
          let turn = placed-leaf.0.placed.turn in
          let text = text-none reader leaf empty in
          let h = left.reads in
          let before : Between = record { expansion_left = expansion_left_of mid; asked = [] } in
          let entered : Between = record { expansion_left = expansion_left_of old; asked = [] } in
          let asked = reads.resolves.asked in
          let between : Between = record { expansion_left = expansion_left_of new; asked = asked } in
          let spans : h.0 ≡ [] = leaf-none reader (IsNext exchanges) leaf before h.0 h.2 turn text h.3 in
          let kept : h.2 ≡ before = leaf-same reader (IsNext exchanges) leaf before h.0 h.2 turn text h.3 in
          let own = reads.resolves.reads [] in
          let none : events_to_come new.leaf new.events ≡ [] = leaf-none reader (IsNext (asked ++ [])) leaf entered (events_to_come new.leaf new.events) between turn text own in
          let limit : expansion_left_of new ≡ expansion_left_of mid = ap (λ (z : Between). z.expansion_left) (leaf-same reader (IsNext (asked ++ [])) leaf entered (events_to_come new.leaf new.events) between turn text own) ∙ same in
          let later : events ≡ h.1 = h.5 ∙ ap (λ l. l ++ h.1) spans in
          let rest : ReadsAll reader (IsNext exchanges) others before events left.after =
          subst (λ l. ReadsAll reader (IsNext exchanges) others before l left.after) (sym later) (subst (λ z. ReadsAll reader (IsNext exchanges) others z h.1 left.after) kept h.4) in
          let following : Left reader others (expansion_left_of mid) exchanges events = record { after = left.after; reads = rest; asked = left.asked } in
          record {
            read_by = record { left = others; stands = enters.stands; placed = placed-leaf.1; same = reads.same };
            later = events;
            reads = subst (λ n. Left reader others n exchanges events) (sym limit) following;
            are = sym (ap (λ z. spans_to_come z new ++ events) enters.inside ∙ ap (λ l. l ++ events) none);
          }

      -- if an end is next, the leaf has no text
      pub leaf-keeps : (exchanges : List Exchange) (events : List Ranged) → Remains replacement reader mid exchanges events → BeginWithEnd events → Remains replacement reader new exchanges events
      leaf-keeps exchanges events m b = go leaf.stretches refl
        where
          go : (ss : List Stretch) → leaf.stretches ≡ ss → Remains replacement reader new exchanges events
          go [] e = empty-keeps e exchanges events m
          go (s ∷ ss) e = absurd (text-begins (λ none. let q : s ∷ ss ≡ [] = sym e ∙ none in cc) exchanges events m b)
