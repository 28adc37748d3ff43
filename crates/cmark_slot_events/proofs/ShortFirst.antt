-- A short event that is given is the first of those that are still to come.
use Rattle.std.proofs.Common.{◌≡◌, ◌<◌, ℕ, suc, ◌+◌, ◌-◌, List, [], ◌∷◌, ◌++◌, drop, get_or, length, refl, sym, ap, subst, ◌∙◌, arith}
use Rattle.std.proofs.Math.Seq.{drop-cons}
use Rattle.cmark_grammar.specs.Event as event
use Rattle.cmark_grammar.specs.Event.{Event, Ranged}
use Rattle.cmark_grammar.specs.InlineReading.{over}
use Rattle.cmark_inline_model.specs.LeafSpans.{IsInline, IsSpan}
use Rattle.cmark_grammar.specs.Tag.{Tag}
use Rattle.cmark_grammar.specs.TagEnd.{end_of}
use Rattle.cmark_inline_model.specs.SlotRows.{slot_events}
use Rattle.cmark_leaf_text.specs.declared.leaf_text.LeafText.{LeafText}
use Rattle.cmark_leaf_text.specs.Reads.{IsRead, IsPart, place_of, source_of, text_of}
use Rattle.cmark_text.specs.declared.event.TagEnd.{TagEnd}
use Rattle.cmark_text.specs.declared.short.Step.{Step}
use Rattle.cmark_text.specs.declared.short.Step.TheVariants as next
use Rattle.cmark_text.specs.declared.short.PlainTag.{PlainTag}
use Rattle.cmark_text.specs.declared.short.Short.{Short}
use Rattle.cmark_text.specs.declared.short.Short.TheVariants as short
use Rattle.cmark_values.specs.declared.text.CowStr.{CowStr}
use Rattle.cmark_text.specs.Excerpt.{excerpt_bytes}
use Rattle.cmark_text.specs.Short.{IsShortZeroCopy, ranged_short, shown_plain, shown_short}
use Rattle.cmark_text.specs.Shown.{shown_end}
use Rattle.cmark_slots.specs.Elements.{emphasis_tag}
use Rattle.cmark_slot_events.specs.Shorts.{AreSome, IsAlone, IsCodeOf, IsNextFirst, IsShortFirst, IsTextOf, PassesFirst, StandsFor}
use Rattle.cmark_slot_events.specs.Events.{events_of, shown_opened}
use Rattle.cmark_slots.specs.SlotViews.{first_of, slot_end, shown_slots, slot_as}
use Rattle.cmark_slot_events.specs.declared.leaf_events.Opened.{Opened}
use Rattle.cmark_references.specs.declared.link.Link.{Link}
use Rattle.cmark_slots.specs.declared.slot.Element.{Element}
use Rattle.cmark_slots.specs.declared.slot.LinkElement.{LinkElement}
use Rattle.cmark_slots.specs.declared.slot.Slot.{Slot}
use Rattle.cmark_slots.specs.declared.slot.SlotKind.{SlotKind}
use Rattle.cmark_slots.specs.declared.slot.SlotKind.TheVariants as kind
use Rattle.cmark_slots.proofs.Lending.{there}
use Rattle.cmark_slot_events.proofs.ShortSteps.{get_or-any, part-range, short-opens}
use Rattle.cmark_slot_events.proofs.EventSteps.{opened-more}

module _ (leaf : LeafText) (texts : List CowStr) (links : List Link) (slot : Slot) (slots : List Slot) (opened : List Opened) where
  abbrev here : Event → Ranged
  here e = over (source_of leaf) (first_of leaf slot) (slot_end leaf slot) e

  abbrev from : SlotKind → List Ranged → List Ranged
  from k ends = slot_events (source_of leaf) (slot_as leaf texts links slot k ∷ shown_slots leaf texts links slots) ends

  abbrev following : List Ranged → List Ranged
  following ends = slot_events (source_of leaf) (shown_slots leaf texts links slots) ends

  text-first : (k : SlotKind) (part : List ℕ) (ends : List Ranged) → IsTextOf leaf slot k part → from k ends ≡ here (event.Text part) ∷ following ends
  text-first kind.Text part ends h = ap (λ p. here (event.Text p) ∷ following ends) (sym h)
  text-first (kind.Whole last) part ends h = ap (λ p. here (event.Text p) ∷ following ends) (sym h)
  text-first k part ends h = absurd h

  code-first : (k : SlotKind) (part : List ℕ) (ends : List Ranged) → IsCodeOf leaf slot k part → from k ends ≡ here (event.Code part) ∷ following ends
  code-first (kind.Code start) part ends h = ap (λ p. here (event.Code p) ∷ following ends) (sym h)
  code-first k part ends h = absurd h

  short-first : (s : Short) → StandsFor leaf slot s → IsInline (shown_short s) → events_of leaf texts links (slot ∷ slots) opened ≡ here (shown_short s) ∷ events_of leaf texts links slots opened
  short-first (short.Text part) h i = text-first slot.kind (excerpt_bytes part) (shown_opened opened) h
  short-first (short.Code part) h i = code-first slot.kind part.now (shown_opened opened) h
  short-first (short.InlineHtml part) h i = ap (λ k. from k (shown_opened opened)) h.0 ∙ ap (λ p. here (event.InlineHtml p) ∷ following (shown_opened opened)) (sym h.1)
  short-first short.SoftBreak h i = ap (λ k. from k (shown_opened opened)) h
  short-first short.HardBreak h i = ap (λ k. from k (shown_opened opened)) h
  short-first _ h i = absurd i

  -- an event of its own
  pub single-first-short : (s : Short) → IsRead leaf → IsPart (text_of leaf) slot.start slot.end → StandsFor leaf slot s → IsInline (shown_short s)
      → IsShortZeroCopy (source_of leaf) s (place_of leaf slot.start) (place_of leaf (slot.end - 1) + 1)
      → (start end : ℕ) → start ≡ place_of leaf slot.start → end ≡ place_of leaf (slot.end - 1) + 1
      → IsShortFirst (source_of leaf) opened s start end opened (events_of leaf texts links (slot ∷ slots) opened) (events_of leaf texts links slots opened)
  single-first-short s read part stands inline lent start end a b = record {
    given = here (shown_short s);
    is = ap (λ n. ranged_short s n (place_of leaf (slot.end - 1) + 1)) (sym a) ∙ ap (ranged_short s start) (sym b);
    follows = record {
      range = part-range (source_of leaf) (first_of leaf slot) (slot_end leaf slot) (there leaf slot.start slot.end read part);
      opens = short-opens s opened (first_of leaf slot) (slot_end leaf slot) inline;
    };
    lent = lent;
    first = short-first s stands inline;
  }

  alone-some : (k : SlotKind) (ends : List Ranged) → IsAlone k → AreSome (from k ends)
  alone-some (kind.Begin mark) ends h = absurd h
  alone-some (kind.BeginLink element index) ends h = absurd h
  alone-some kind.End ends h = absurd h
  alone-some kind.Nothing ends h = absurd h
  alone-some _ ends h = (_, following ends, refl)

  -- an event of another kind
  pub single-some : IsAlone slot.kind → AreSome (events_of leaf texts links (slot ∷ slots) opened)
  single-some h = alone-some slot.kind (shown_opened opened) h

  pub begin-some : (e : LinkElement) (index : ℕ) → slot.kind ≡ kind.BeginLink e index → AreSome (events_of leaf texts links (slot ∷ slots) opened)
  begin-some e index h = (_, _, ap (λ k. from k (shown_opened opened)) h)

  -- an element begins
  pub begin-first-short : (tag : PlainTag) (end : TagEnd) (e : Element) → IsRead leaf → IsPart (text_of leaf) slot.start slot.end → slot.kind ≡ kind.Begin e → shown_plain tag ≡ emphasis_tag e → IsSpan (shown_plain tag)
      → end_of (shown_plain tag) ≡ shown_end end
      → IsShortFirst (source_of leaf) opened (short.Start tag) (place_of leaf slot.start) (place_of leaf (slot.end - 1) + 1) (opened ++ (record { tag = end; start = place_of leaf slot.start; end = place_of leaf (slot.end - 1) + 1 } ∷ [])) (events_of leaf texts links (slot ∷ slots) opened)
      (events_of leaf texts links slots (opened ++ (record { tag = end; start = place_of leaf slot.start; end = place_of leaf (slot.end - 1) + 1 } ∷ [])))
  begin-first-short tag end e read part is t span same =
      let one : Opened = record { tag = end; start = place_of leaf slot.start; end = place_of leaf (slot.end - 1) + 1 } in
      let closes : List Ranged = here (event.End (end_of (shown_plain tag))) ∷ shown_opened opened in
      record {
        given = here (event.Start (shown_plain tag));
        is = refl;
        follows = record {
          range = part-range (source_of leaf) (first_of leaf slot) (slot_end leaf slot) (there leaf slot.start slot.end read part);
          opens = (span, (one, record { tag_is = sym same; start_is = refl; end_is = refl }, refl));
        };
        lent = tt;
        first = ap (λ k. from k (shown_opened opened)) is
            ∙ ap (λ (x : Tag). here (event.Start x) ∷ following (here (event.End (end_of x)) ∷ shown_opened opened)) (sym t)
            ∙ ap (λ (l : List Ranged). here (event.Start (shown_plain tag)) ∷ following l) (ap (λ x. here (event.End x) ∷ shown_opened opened) same ∙ sym (opened-more opened one));
      }

  -- the same lemma, with other names for the open elements and their ranges
  pub begin-short-now : (now : List Opened) (tag : PlainTag) (end : TagEnd) (e : Element) (start stop : ℕ) → IsRead leaf → IsPart (text_of leaf) slot.start slot.end → slot.kind ≡ kind.Begin e → shown_plain tag ≡ emphasis_tag e → IsSpan (shown_plain tag)
      → end_of (shown_plain tag) ≡ shown_end end → start ≡ place_of leaf slot.start → stop ≡ place_of leaf (slot.end - 1) + 1 → now ≡ opened ++ (record { tag = end; start = start; end = stop } ∷ [])
      → IsShortFirst (source_of leaf) opened (short.Start tag) start stop now (events_of leaf texts links (slot ∷ slots) opened) (events_of leaf texts links slots now)
  begin-short-now now tag end e start stop read part is t span same a b last =
      let made : ℕ → ℕ → List Opened = λ x y. opened ++ (record { tag = end; start = x; end = y } ∷ []) in
      let ranged : IsShortFirst (source_of leaf) opened (short.Start tag) start stop (made (place_of leaf slot.start) (place_of leaf (slot.end - 1) + 1)) (events_of leaf texts links (slot ∷ slots) opened) (events_of leaf texts links slots (made (place_of leaf slot.start) (place_of leaf (slot.end - 1) + 1)))
      = subst (λ x. IsShortFirst (source_of leaf) opened (short.Start tag) x stop (made (place_of leaf slot.start) (place_of leaf (slot.end - 1) + 1)) (events_of leaf texts links (slot ∷ slots) opened) (events_of leaf texts links slots (made (place_of leaf slot.start) (place_of leaf (slot.end - 1) + 1)))) (sym a)
      (subst (λ y. IsShortFirst (source_of leaf) opened (short.Start tag) (place_of leaf slot.start) y (made (place_of leaf slot.start) (place_of leaf (slot.end - 1) + 1)) (events_of leaf texts links (slot ∷ slots) opened) (events_of leaf texts links slots (made (place_of leaf slot.start) (place_of leaf (slot.end - 1) + 1)))) (sym b)
      (begin-first-short tag end e read part is t span same)) in
      let same_now : made (place_of leaf slot.start) (place_of leaf (slot.end - 1) + 1) ≡ now = ap (λ x. made x (place_of leaf (slot.end - 1) + 1)) (sym a) ∙ ap (made start) (sym b) ∙ sym last in
      subst (λ l. IsShortFirst (source_of leaf) opened (short.Start tag) start stop l (events_of leaf texts links (slot ∷ slots) opened) (events_of leaf texts links slots l)) same_now ranged

  pub nothing-first : slot.kind ≡ kind.Nothing → events_of leaf texts links (slot ∷ slots) opened ≡ events_of leaf texts links slots opened
  nothing-first is = ap (λ k. from k (shown_opened opened)) is

  -- an element ends in the slot
  pub ended-first : (new : List Opened) (n : Step) → slot.kind ≡ kind.End → IsNextFirst (source_of leaf) opened n new (shown_opened opened) (shown_opened new)
      → PassesFirst (source_of leaf) opened n new (events_of leaf texts links (slot ∷ slots) opened) (events_of leaf texts links slots new)
  ended-first new (next.Short s start end) is h = record { given = h.given; is = h.is; follows = h.follows; lent = h.lent; first = ap (λ k. from k (shown_opened opened)) is ∙ ap (from kind.End) h.first }
  ended-first new next.Long is h = (h.0.0, following h.0.1, ap (λ k. from k (shown_opened opened)) is ∙ ap (from kind.End) h.0.2)
  ended-first new next.Over is h = ap (λ k. from k (shown_opened opened)) is ∙ ap (from kind.End) h.0 ∙ sym (ap following h.1)

-- the element that was opened last ends
pub end-first-short : (source : List ℕ) (one : Opened) (old new : List Opened) → IsPart source one.start one.end → old ≡ new ++ (one ∷ []) → IsShortFirst source old (short.End one.tag) one.start one.end new (shown_opened old) (shown_opened new)
end-first-short source one old new part last = record {
  given = ranged_short (short.End one.tag) one.start one.end;
  is = refl;
  follows = record { range = part-range source one.start one.end part; opens = (one, record { tag_is = refl; start_is = refl; end_is = refl }, last) };
  lent = tt;
  first = ap shown_opened last ∙ opened-more new one;
}

pub alone : (k : SlotKind) → ((e : Element) → k ≡ kind.Begin e → ⊥) → ((e : LinkElement) (index : ℕ) → k ≡ kind.BeginLink e index → ⊥) → (k ≡ kind.End → ⊥) → (k ≡ kind.Nothing → ⊥) → IsAlone k
alone (kind.Begin mark) b l e n = b mark refl
alone (kind.BeginLink element index) b l e n = l element index refl
alone kind.End b l e n = e refl
alone kind.Nothing b l e n = n refl
alone _ b l e n = tt

-- ## The slots one after the other

module _ (leaf : LeafText) (texts texts1 : List CowStr) (links links1 : List Link) (slots slots1 : List Slot) (opened opened1 : List Opened) (at at1 : ℕ) (ts : texts1 ≡ texts) (ls : links1 ≡ links) (same : slots1 ≡ slots) where
  kept : (l : List Slot) → events_of leaf texts links l opened1 ≡ events_of leaf texts1 links1 l opened1
  kept l = ap (λ (t : List CowStr). events_of leaf t links l opened1) (sym ts) ∙ ap (λ (k : List Link). events_of leaf texts1 k l opened1) (sym ls)

  module _ (slot : Slot) (lt : at < length slots) (is : slot ≡ get_or slots at slot) where
    here-first : (next : ℕ) → next ≡ at + 1 → drop at slots ≡ slot ∷ drop next slots1
    here-first next place =
        drop-cons slots at slot lt ∙ ap (λ x. x ∷ drop (suc at) slots) (sym is) ∙ ap (λ l. slot ∷ drop (suc at) l) (sym same) ∙ ap (λ k. slot ∷ drop k slots1) (let q : suc at ≡ next = omega (arith, place) in q)

    abbrev Passed : Step → Type 0
    Passed n = (texts : List CowStr) (links : List Link) (following : List Slot) → PassesFirst (source_of leaf) opened n opened1 (events_of leaf texts links (slot ∷ following) opened) (events_of leaf texts links following opened1)

    pub passed-over : Passed next.Over → at1 ≡ at + 1 → events_of leaf texts links (drop at slots) opened ≡ events_of leaf texts1 links1 (drop at1 slots1) opened1
    passed-over h place = ap (λ (l : List Slot). events_of leaf texts links l opened) (here-first at1 place) ∙ h texts links (drop at1 slots1) ∙ kept (drop at1 slots1)

    pub given-short : (s : Short) (start end : ℕ) → Passed (next.Short s start end) → at1 ≡ at + 1 → IsShortFirst (source_of leaf) opened s start end opened1 (events_of leaf texts links (drop at slots) opened) (events_of leaf texts1 links1 (drop at1 slots1) opened1)
    given-short s start end h place =
        subst (λ (l : List Slot). IsShortFirst (source_of leaf) opened s start end opened1 (events_of leaf texts links l opened) (events_of leaf texts1 links1 (drop at1 slots1) opened1)) (sym (here-first at1 place))
        (subst (λ l. IsShortFirst (source_of leaf) opened s start end opened1 (events_of leaf texts links (slot ∷ drop at1 slots1) opened) l) (kept (drop at1 slots1)) (h texts links (drop at1 slots1)))

    pub long-some : Passed next.Long → AreSome (events_of leaf texts links (drop at slots) opened)
    long-some h = subst (λ (l : List Slot). AreSome (events_of leaf texts links l opened)) (sym (here-first (at + 1) refl)) (h texts links (drop (at + 1) slots1))

-- the short event of a slot, by the index after the slot
pub stands-at : (leaf : LeafText) (slots old : List Slot) (at following : ℕ) (slot : Slot) (s : Short) → slots ≡ old → at < length slots → slot ≡ get_or slots at slot → following ≡ at → StandsFor leaf slot s
    → (d : Slot) → StandsFor leaf (get_or old (following + 1 - 1) d) s
stands-at leaf slots old at following slot s same lt is place h d =
    let q : at ≡ following + 1 - 1 = omega (arith, place) in
    subst (λ (x : Slot). StandsFor leaf x s) (is ∙ get_or-any slots at slot d lt ∙ ap (λ (l : List Slot). get_or l at d) same ∙ ap (λ n. get_or old n d) q) h
