-- Steps of a walk with spans: its state.
use Rattle.std.proofs.Common.{◌≡◌, ◌⊎◌, inl, inr, ℕ, ◌<◌, ◌≤◌, ◌*◌, ◌-◌, arith, Bool, true, false, List, [], ◌∷◌, length, refl, sym, ap, ◌∙◌, subst}
use Rattle.std.specs.Prelude.{is_some}
use Rattle.std.specs.Global.{Vec}
use Rattle.cmark_grammar.specs.LeafText.{Leaf}
use Rattle.cmark_grammar.specs.SpanDocuments.{Segment, Given, Content}
use Rattle.cmark_references.specs.declared.footnotes.FootnoteDefs.{FootnoteDefs}
use Rattle.cmark_slot_events.specs.declared.leaf_events.Opened.{Opened}
use Rattle.cmark_slots.specs.declared.slot.Slot.{Slot}
use Rattle.cmark_inline.specs.declared.state.InlineState.{InlineState}
use Rattle.cmark_slot_events.specs.declared.leaf_events.LeafEvents.{LeafEvents}
use Rattle.cmark_inline.specs.Counted.{Counts, extent_of, total}
use Rattle.cmark_inline.specs.Footnoted.{SameFootnotes}
use Rattle.cmark_inline_model.specs.LeafExtents.{extent, extents}
use Rattle.cmark_slot_events.specs.Events.{AreLeft}
use Rattle.cmark_slot_events.specs.LeafStates.{IsOver}
use Rattle.cmark_slot_events.specs.Opens.{AreOpened}
use Rattle.cmark_slots.specs.Slots.{AreSlots}
use Rattle.cmark_leaf_text.specs.declared.leaf_text.LeafText.{LeafText}
use Rattle.cmark_leaf_text.specs.declared.stretch.LeafLine.{LeafLine}
use Rattle.cmark_leaf_text.specs.Reads.{IsRead, text_of}
use Rattle.cmark_text.specs.declared.short.Step.{Step}
use Rattle.cmark_text.specs.declared.short.Step.TheVariants as next
use Rattle.cmark_text.specs.declared.short.Short.{Short}
use Rattle.cmark_block_walk.specs.declared.walk.Walk.{Walk}
use Rattle.cmark_block_walk.specs.Walking as walking
use Rattle.cmark_block_walk.specs.Walking.{AreLinesOf}
use Rattle.cmark_block_walk.proofs.OneRemainder.{one-remainder}
use Rattle.cmark_event_walk.specs.declared.span_walk.SpanWalk.{SpanWalk}
use Rattle.cmark_event_walk.specs.Walking.{BeforeLeaf, BlocksLeft, EntersLeaf, HasSpecialBytes, IsAble, Stands, StandsAt, StandsIn, StandsInLeaf, definitions_of, events_left, footnotes_of, link_in, link_to_come, opened_of, source_of}

none-opened : (source : List ℕ) (opened : List Opened) → opened ≡ [] → AreOpened source opened
none-opened source opened e = subst (AreOpened source) (sym e) (λ k d lt. absurd (omega (arith, lt)))

-- a fact of Short and of Long is a fact of any result but Over
pub before-over : (P : Step → Type 0) (n : Step) → (n ≡ next.Over → ⊥) → ((short : Short) (start end : ℕ) → n ≡ next.Short short start end → P (next.Short short start end)) → (n ≡ next.Long → P next.Long) → P n
before-over P (next.Short short start end) some s l = s short start end refl
before-over P next.Long some s l = l refl
before-over P next.Over some s l = absurd (some refl)

-- before the first leaf
pub begin-able : (inline : InlineState) (source : List ℕ) (left : List Segment) → total inline.steps ≡ 0 → inline.failed ≡ false → extents left ≤ length source → IsAble inline source left
begin-able inline source left none live short = record { counted = omega (arith, none, short); live = live }

-- the searches have steps left for the leaves after the first one
extents-following : (x : Segment) (others : List Segment) → extents others ≤ extents (x ∷ others)
extents-following (Given r) others = omega arith
extents-following (Content leaf) others = omega arith

able-following : (inline : InlineState) (source : List ℕ) (x : Segment) (others : List Segment) → IsAble inline source (x ∷ others) → IsAble inline source others
able-following inline source x others able =
    let counted = able.counted in
    let less = extents-following x others in
    record { counted = omega (arith, counted, less); live = able.live }

-- the searches in a leaf take at most the steps that were left for it
able-leaf : (old new : InlineState) (source : List ℕ) (one : Leaf) (others : List Segment) (read : LeafText) → IsAble old source (Content one ∷ others) → Counts read old.steps new.steps → extent_of read ≤ extent one → length (text_of read) ≤ extent one → new.failed ≡ false
    → IsAble new source others
able-leaf old new source one others read able counts extent text live =
    let counted = able.counted in
    let found = counts.found in
    let opened = counts.opened in
    record { counted = omega (arith, counted, found, opened, extent, text); live = live }

-- this also holds if memory was refused in the leaf
pub leaf-counted : (old new : InlineState) (source : List ℕ) (one : Leaf) (others : List Segment) (read : LeafText) → IsAble old source (Content one ∷ others) → Counts read old.steps new.steps → extent_of read ≤ extent one → length (text_of read) ≤ extent one
    → total new.steps ≤ 128 * length source
leaf-counted old new source one others read able counts extent text =
    let counted = able.counted in
    let found = counts.found in
    let opened = counts.opened in
    omega (arith, counted, found, opened, extent, text)

module _ {E F : Type 0} where
  -- the walk over blocks determines the events and leaves that are left
  pub one-left : (walk : SpanWalk E F) (first second : List Segment) → BlocksLeft walk first → BlocksLeft walk second → first ≡ second
  one-left walk first second a b = one-remainder walk.walk first second a.remains b.remains

  pub in-leaf : (walk : SpanWalk E F) → walk.in_leaf ≡ true → StandsIn walk.in_leaf walk → StandsInLeaf walk
  in-leaf walk e h = subst (λ b. StandsIn b walk) e h

  pub outside : (walk : SpanWalk E F) → walk.in_leaf ≡ false → StandsIn walk.in_leaf walk
  outside walk e = subst (λ b. StandsIn b walk) (sym e) tt

  -- a walk at its start
  pub new-stands : (walk : SpanWalk E F) (text : List ℕ) (left : List Segment) → walk.in_leaf ≡ false → source_of walk ≡ text → HasSpecialBytes walk → walking.Remains walk.walk left → walking.text_of walk.walk ≡ text → length left < walk.budget
      → IsAble walk.inline text left → StandsAt walk left
  new-stands walk text left out source special remains same few able = record { blocks = record { remains = remains; few = few; able = subst (λ t. IsAble walk.inline t left) (sym source) able; same_text = same ∙ sym source; special = special }; leaf = outside walk out }

  -- after one more event of the leaf, or none
  pub spanned-at : (walk : SpanWalk E F) (leaf_events : LeafEvents) (left : List Segment) → StandsAt walk left → walk.in_leaf ≡ true → leaf_events.slots ≡ walk.events.slots → AreOpened (source_of walk) leaf_events.walk.opened.items → AreLeft walk.leaf leaf_events
      → StandsAt (record walk { events = leaf_events }) left
  spanned-at walk leaf_events left s inside slots opened given =
      let new : SpanWalk E F = record walk { events = leaf_events } in
      let h = in-leaf walk inside s.leaf in
      let here : StandsInLeaf new = record { over = record { read = h.over.read; slots = subst (λ (v : Vec Slot). AreSlots (text_of walk.leaf) (length (text_of walk.leaf)) v.items) (sym slots) h.over.slots; opened = opened }; given = given } in
      record { blocks = record { remains = s.blocks.remains; few = s.blocks.few; able = s.blocks.able; same_text = s.blocks.same_text; special = s.blocks.special }; leaf = subst (λ b. StandsIn b new) (sym inside) here }

  -- the events that the slots still have can be returned
  pub given-left : (walk : SpanWalk E F) (left : List Segment) → StandsAt walk left → walk.in_leaf ≡ true → AreLeft walk.leaf walk.events
  given-left walk left s inside = (in-leaf walk inside s.leaf).given

  -- the leaf was read, and its slots are those of its text
  pub over-leaf : (walk : SpanWalk E F) (left : List Segment) → StandsAt walk left → walk.in_leaf ≡ true → IsOver walk.leaf walk.events
  over-leaf walk left s inside = (in-leaf walk inside s.leaf).over

  -- a link is next only in a leaf
  pub link-inside : (walk : SpanWalk E F) → is_some (link_to_come walk) ≡ true → walk.in_leaf ≡ true
  link-inside walk h = go walk.in_leaf refl
    where
      go : (b : Bool) → walk.in_leaf ≡ b → walk.in_leaf ≡ true
      go true e = e
      go false e = let q : false ≡ true = sym (ap (λ b. is_some (link_in b walk)) e) ∙ h in cc

  -- the walk after the last event of a leaf
  abbrev pub closed : SpanWalk E F → LeafEvents → SpanWalk E F
  closed walk leaf_events = record walk { events = leaf_events; in_leaf = false }

  pub closed-at : (walk : SpanWalk E F) (leaf_events : LeafEvents) (left : List Segment) → StandsAt walk left → StandsAt (closed walk leaf_events) left
  closed-at walk leaf_events left s = record { blocks = record { remains = s.blocks.remains; few = s.blocks.few; able = s.blocks.able; same_text = s.blocks.same_text; special = s.blocks.special }; leaf = tt }

  -- the walk enters a leaf
  pub enters : (old : SpanWalk E F) (leaf : LeafText) (inline : InlineState) (leaf_events : LeafEvents) (footnotes : FootnoteDefs) (callback : F) (is_cell : Bool) → IsRead leaf → leaf.source.now ≡ source_of old
      → AreSlots (text_of leaf) (length (text_of leaf)) leaf_events.slots.items → leaf_events.walk.opened.items ≡ [] → AreLeft leaf leaf_events → Counts leaf old.inline.steps inline.steps → inline.failed ≡ false
      → (one : Leaf) (others : List Segment) → BeforeLeaf old is_cell one others → extent_of leaf ≤ extent one → length (text_of leaf) ≤ extent one → EntersLeaf others (record old { leaf = leaf; inline = inline; events = leaf_events; footnotes = footnotes; in_leaf = true; callback = callback })
  enters old leaf inline leaf_events footnotes callback is_cell read source slots none given counts live one others before extent text = record {
    stands = record {
      blocks = record { remains = before.blocks.remains; few = before.blocks.few; able = subst (λ s. IsAble inline s others) (sym source) (able-leaf old.inline inline (source_of old) one others leaf before.able counts extent text live); same_text = before.blocks.same_text ∙ sym source; special = before.blocks.special };
      leaf = record { over = record { read = read; slots = slots; opened = none-opened leaf.source.now leaf_events.walk.opened.items none }; given = given };
    };
    inside = refl;
    none_open = none;
  }

  -- the walk is before the first span of a leaf, which was taken off the budget
  pub record IsFresh (old walk : SpanWalk E F) : Type 0 where
    pub spent : walk.budget < old.budget
    pub inside : walk.in_leaf ≡ true
    pub none_open : opened_of walk ≡ []

  -- facts that each turn of a call's loop keeps
  pub record Lasts (old walk : SpanWalk E F) : Type 0 where
    pub stands : Stands walk
    pub budget : walk.budget ≤ old.budget
    pub most : (events_left walk ≤ events_left old) ⊎ IsFresh old walk
    pub definitions : definitions_of walk ≡ definitions_of old
    pub footnotes : SameFootnotes (footnotes_of old) (footnotes_of walk)
    pub source : source_of walk ≡ source_of old

  pub lasts-none : (walk : SpanWalk E F) → Stands walk → Lasts walk walk
  lasts-none walk s = record { stands = s; budget = omega arith; most = inl (omega arith); definitions = refl; footnotes = λ folded. refl; source = refl }

  -- the number of events that are left has not grown since the call began
  pub most-since : (old head new : SpanWalk E F) → Lasts old head → events_left new ≤ events_left head → (head.in_leaf ≡ true → length new.events.slots.items < 18446744073709551616) → new.events.slots ≡ head.events.slots → new.budget ≡ head.budget
      → events_left new ≤ events_left old
  most-since old head new l most few slots budget = by l.most
    where
      by : (events_left head ≤ events_left old) ⊎ IsFresh old head → events_left new ≤ events_left old
      by (inl le) = omega (arith, most, le)
      by (inr fresh) =
          let f = few fresh.inside in
          let same = ap (λ (v : Vec Slot). length v.items) slots in
          let none = ap length fresh.none_open in
          let spent = fresh.spent in
          omega (arith, most, f, same, none, spent, budget)

  pub less-since : (old head new : SpanWalk E F) → Lasts old head → events_left new < events_left head → (head.in_leaf ≡ true → length new.events.slots.items < 18446744073709551616) → new.events.slots ≡ head.events.slots → new.budget ≡ head.budget
      → events_left new < events_left old
  less-since old head new l less few slots budget = by l.most
    where
      by : (events_left head ≤ events_left old) ⊎ IsFresh old head → events_left new < events_left old
      by (inl le) = omega (arith, less, le)
      by (inr fresh) =
          let f = few fresh.inside in
          let same = ap (λ (v : Vec Slot). length v.items) slots in
          let none = ap length fresh.none_open in
          let spent = fresh.spent in
          omega (arith, less, f, same, none, spent, budget)

  -- the walk over blocks returned its next event or leaf, or the end
  module _ (mid : SpanWalk E F) (walk : Walk) (lines : Vec LeafLine) (out : mid.in_leaf ≡ false) (same-text : walking.text_of walk ≡ walking.text_of mid.walk) where
    abbrev pub met-by : (budget : ℕ) → SpanWalk E F
    met-by budget = record mid { walk = walk; lines = lines; budget = budget }

    -- it returns an event or a leaf only if the budget is not spent
    pub not-spent : (left : List Segment) (x : Segment) (others : List Segment) → StandsAt mid left → left ≡ x ∷ others → 0 < mid.budget
    not-spent left x others s e = let f = s.blocks.few in let l = ap length e in omega (arith, f, l)

    pub blocks-following : (budget : ℕ) (left : List Segment) (x : Segment) (others : List Segment) → StandsAt mid left → left ≡ x ∷ others → walking.Remains walk others → budget ≡ mid.budget - 1 → BlocksLeft (met-by budget) others
    blocks-following budget left x others s e r less =
        let f = s.blocks.few in
        let l = ap length e in
        let able = able-following mid.inline (source_of mid) x others (subst (IsAble mid.inline (source_of mid)) e s.blocks.able) in
        record { remains = r; few = (let q : length others < budget = omega (arith, f, l, less) in q); able = able; same_text = same-text ∙ s.blocks.same_text; special = s.blocks.special }

    -- the next is an event, or a leaf that is one text
    pub following-at : (budget : ℕ) (left : List Segment) (x : Segment) (others : List Segment) → StandsAt mid left → left ≡ x ∷ others → walking.Remains walk others → budget ≡ mid.budget - 1 → StandsAt (met-by budget) others
    following-at budget left x others s e remains less = record { blocks = blocks-following budget left x others s e remains less; leaf = outside (met-by budget) out }

    -- the next is an event of another kind, which the walk over blocks has not passed
    pub same-at : (left : List Segment) → StandsAt mid left → walking.Remains walk left → StandsAt (met-by mid.budget) left
    same-at left s r = record { blocks = record { remains = r; few = s.blocks.few; able = s.blocks.able; same_text = same-text ∙ s.blocks.same_text; special = s.blocks.special }; leaf = outside (met-by mid.budget) out }

    -- nothing is left
    pub over-at : (left : List Segment) → StandsAt mid left → left ≡ [] → walking.Remains walk [] → StandsAt (met-by mid.budget) []
    over-at left s e r =
        let f = s.blocks.few in
        record { blocks = record { remains = r; few = (let q : 0 < mid.budget = omega (arith, f) in q); able = subst (IsAble mid.inline (source_of mid)) e s.blocks.able; same_text = same-text ∙ s.blocks.same_text; special = s.blocks.special }; leaf = outside (met-by mid.budget) out }

    -- the next is a leaf
    pub before-leaf : (is_cell : Bool) (budget : ℕ) (left : List Segment) (leaf : Leaf) (others : List Segment) → StandsAt mid left → left ≡ Content leaf ∷ others → AreLinesOf (walking.text_of walk) leaf lines.items → walking.Remains walk others
        → is_cell ≡ leaf.is_cell → budget ≡ mid.budget - 1 → BeforeLeaf (met-by budget) is_cell leaf others
    before-leaf is_cell budget left leaf others s e are remains cell less =
        record { cell = cell; able = subst (IsAble mid.inline (source_of mid)) e s.blocks.able; lines = subst (λ t. AreLinesOf t leaf lines.items) (same-text ∙ s.blocks.same_text) are; blocks = blocks-following budget left (Content leaf) others s e remains less }

    -- fewer events are left after an event
    pub met-fewer : (old head : SpanWalk E F) (budget : ℕ) (left : List Segment) (x : Segment) (others : List Segment) → StandsAt mid left → left ≡ x ∷ others → Lasts old head
        → events_left mid ≤ events_left head → (head.in_leaf ≡ true → length mid.events.slots.items < 18446744073709551616) → mid.events.slots ≡ head.events.slots → mid.budget ≡ head.budget → budget ≡ mid.budget - 1
        → events_left (met-by budget) < events_left old
    met-fewer old head budget left x others s e l most few slots same less =
        let counted = most-since old head mid l most few slots same in
        let some = not-spent left x others s e in
        omega (arith, counted, some, less)

    -- the next is a leaf, which the walk enters
    pub lasts-leaf : (old head new : SpanWalk E F) (left : List Segment) (leaf : Leaf) (others : List Segment) → StandsAt mid left → Lasts old head → mid.budget ≡ head.budget
        → definitions_of new ≡ definitions_of head → SameFootnotes (footnotes_of head) (footnotes_of new) → source_of mid ≡ source_of head
        → left ≡ Content leaf ∷ others → EntersLeaf others new → source_of new ≡ source_of mid → new.budget ≡ mid.budget - 1 → Lasts old new
    lasts-leaf old head new left leaf others s l same definitions footnotes kept e enters source spent =
        let some = not-spent left (Content leaf) others s e in
        let le = l.budget in
        record {
          stands = (others, enters.stands);
          budget = omega (arith, spent, same, le);
          most = inr (record { spent = (let q : new.budget < old.budget = omega (arith, some, spent, same, le) in q); inside = enters.inside; none_open = enters.none_open });
          definitions = definitions ∙ l.definitions;
          footnotes = λ folded. footnotes folded ∙ l.footnotes folded;
          source = source ∙ kept ∙ l.source;
        }
