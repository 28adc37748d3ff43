-- Spans that are written into slots, one after the other.
use Rattle.std.proofs.Common.{◌≡◌, inl, inr, ℕ, zero, suc, ◌+◌, ◌-◌, ◌<◌, ◌≤◌, List, [], ◌∷◌, ◌++◌, drop, length, get_or, set, Some, None, refl, sym, ap, subst, ◌∙◌, append_assoc, arith}
use Rattle.std.specs.Prelude.{map}
use Rattle.std.proofs.Math.Seq.{drop-cons}
use Rattle.std.proofs.lemmas.List.{get_or-set_other, length-set}
use Rattle.cmark_emphasis.specs.Shown.{shown_kind, shown_pair}
use Rattle.cmark_emphasis.specs.declared.run.Pair as code_pair
use Rattle.cmark_emphasis.proofs.InnermostKinds.{kinds-none}
use Rattle.cmark_emphasis.specs.declared.span.SpanKind as code_kind
use Rattle.cmark_grammar.specs.Emphasis.{kinds_of}
use Rattle.cmark_grammar.specs.Options.{Options}
use Rattle.cmark_grammar.specs.Spans.{Span, span_tag, span_width}
use Rattle.cmark_inline_model.specs.SlotRows as row
use Rattle.cmark_inline_model.specs.SlotRows.{spanned}
use Rattle.cmark_leaf_text.specs.declared.leaf_text.LeafText.{LeafText}
use Rattle.cmark_references.specs.declared.link.Link.{Link}
use Rattle.cmark_values.specs.declared.text.CowStr.{CowStr}
use Rattle.cmark_slots.specs.Cuts.{hidden}
use Rattle.cmark_slots.specs.MarkedSlots.{AreWhole, EndWithin, Merges, SameBefore, begun_as, ended}
use Rattle.cmark_slots.specs.PairSlots.{AreApartFrom, AreInTurn, BeginFrom, CanWrite, HasTexts, HaveTextsOf, IsApart, KeepsSlots, hidden_inside, inner_used, span_between, spans_around, write_span, write_spans}
use Rattle.cmark_slots.specs.Elements.{emphasis_tag}
use Rattle.cmark_slots.specs.SlotViews.{shown_slots}
use Rattle.cmark_slots.specs.Standing.{NamesNoMore}
use Rattle.cmark_slots.specs.declared.slot.Element.{Element}
use Rattle.cmark_slots.specs.declared.slot.Slot.{Slot}
use Rattle.cmark_slots.specs.declared.slot.SlotKind.TheVariants as kind
use Rattle.cmark_slots.proofs.Marks.{SameAround, blank-view, no-slot, none-view, same-merges, same-set, same-sets, some-view, whole-merges, whole-set, within-merges, within-set}
use Rattle.cmark_slots.proofs.Naming.{no-more-merges, no-more-on, no-more-same, no-more-set}
use Rattle.cmark_slots.proofs.PairSpans.{wide-enough}

-- ## The spans that are still to be written

keeps-texts : (span other : Span) (old new : List Slot) → SameAround span.start span.end old new → IsApart span other → HasTexts old other → HasTexts new other
keeps-texts span other old new same apart h = record {
  wide = h.wide;
  within = (let n = same.size in let w = h.within in let q : other.end ≤ length new = omega (arith, n, w) in q);
  opening = λ j d lt. ap (λ (s : Slot). s.kind) (first j d lt apart) ∙ h.opening j d lt;
  closing = λ j d lt. ap (λ (s : Slot). s.kind) (last j d lt apart) ∙ h.closing j d lt;
  order = λ d.
      let least = (wide-enough other.kind).0 in
      let one : get_or new other.start d ≡ get_or old other.start d = ap (λ k. get_or new k d) (let q : other.start ≡ other.start + 0 = omega arith in q) ∙ first 0 d least apart ∙ ap (λ k. get_or old k d) (let q : other.start + 0 ≡ other.start = omega arith in q) in
      subst (λ (s : Slot). s.end ≤ (get_or new (other.end - 1) d).end) (sym one) (subst (λ (s : Slot). (get_or old other.start d).end ≤ s.end) (sym (last 0 d least apart)) (h.order d));
}
  where
    first : (j : ℕ) (d : Slot) → j < span_width other.kind → IsApart span other → get_or new (other.start + j) d ≡ get_or old (other.start + j) d
    first j d lt (inl (before, following)) = same.before (other.start + j) d (omega (arith, before, lt))
    first j d lt (inr following) = same.following (other.start + j) d (omega (arith, following))

    last : (j : ℕ) (d : Slot) → j < span_width other.kind → IsApart span other → get_or new (other.end - suc j) d ≡ get_or old (other.end - suc j) d
    last j d lt (inl (before, following)) = same.following (other.end - suc j) d (omega (arith, following, lt))
    last j d lt (inr following) = let wide = h.wide in same.following (other.end - suc j) d (omega (arith, following, lt, wide))

keep-texts : (span : Span) (others : List Span) (old new : List Slot) → SameAround span.start span.end old new → AreApartFrom span others → HaveTextsOf old others → HaveTextsOf new others
keep-texts span [] old new same apart h = tt
keep-texts span (o ∷ others) old new same apart h = (keeps-texts span o old new same apart.0 h.0, keep-texts span others old new same apart.1 h.1)

-- after a span was written, the others can be written
pub goes-on : (span : Span) (others : List Span) (old new : List Slot) → CanWrite old (span ∷ others) → SameAround span.start span.end old new → AreWhole new → CanWrite new others
goes-on span others old new h same whole = record { whole = whole; texts = keep-texts span others old new same h.turn.0 h.texts.1; turn = h.turn.1 }

-- the first spans can be written
turn-first : (a b : List Span) → AreInTurn (a ++ b) → AreInTurn a
turn-first [] b h = tt
turn-first (s ∷ a) b h = (apart-first a h.0, turn-first a b h.1)
  where
    apart-first : (a : List Span) → AreApartFrom s (a ++ b) → AreApartFrom s a
    apart-first [] h = tt
    apart-first (x ∷ a) h = (h.0, apart-first a h.1)

texts-first : (slots : List Slot) (a b : List Span) → HaveTextsOf slots (a ++ b) → HaveTextsOf slots a
texts-first slots [] b h = tt
texts-first slots (s ∷ a) b h = (h.0, texts-first slots a b h.1)

pub can-first : (slots : List Slot) (a b : List Span) → CanWrite slots (a ++ b) → CanWrite slots a
can-first slots a b h = record { whole = h.whole; texts = texts-first slots a b h.texts; turn = turn-first a b h.turn }

pub write-more : (options : Options) (a b : List Span) (rows : List row.Slot) → write_spans options (a ++ b) rows ≡ write_spans options b (write_spans options a rows)
write-more options [] b rows = refl
write-more options (s ∷ a) b rows = write-more options a b (write_span options s rows)

pub begin-first : (low : ℕ) (a b : List Span) → BeginFrom low (a ++ b) → BeginFrom low a × BeginFrom low b
begin-first low [] b h = (tt, h)
begin-first low (s ∷ a) b h = let i = begin-first low a b h.1 in ((h.0, i.0), i.1)

-- ## Facts that are preserved

pub keeps-same : (slots : List Slot) → KeepsSlots slots slots
keeps-same slots = record { slots = λ text place h. h; size = refl; links = λ from h. h; within = λ h. h; names = no-more-same slots }

pub keeps-on : (old mid new : List Slot) → KeepsSlots old mid → KeepsSlots mid new → KeepsSlots old new
keeps-on old mid new a b = record {
  slots = λ text place h. b.slots text place (a.slots text place h);
  size = b.size ∙ a.size;
  links = λ from h. b.links from (a.links from h);
  within = λ h. b.within (a.within h);
  names = no-more-on old mid new a.names b.names;
}

around-on : (low high : ℕ) (old mid new : List Slot) → SameAround low high old mid → SameAround low high mid new → SameAround low high old new
around-on low high old mid new a b = record {
  size = b.size ∙ a.size;
  before = λ k d lt. b.before k d lt ∙ a.before k d lt;
  following = λ k d le. b.following k d le ∙ a.following k d le;
}

around-wider : (low low1 high high1 : ℕ) (old new : List Slot) → low1 ≤ low → high ≤ high1 → SameAround low high old new → SameAround low1 high1 old new
around-wider low low1 high high1 old new a b h = record {
  size = h.size;
  before = λ k d lt. h.before k d (omega (arith, lt, a));
  following = λ k d le. h.following k d (omega (arith, le, b));
}

around-same : (low high : ℕ) (slots : List Slot) → SameAround low high slots slots
around-same low high slots = record { size = refl; before = λ k d lt. refl; following = λ k d le. refl }

-- ## The inner bytes of a span

record IsInner (width first last : ℕ) (old mid : List Slot) : Type 0 where
  first_same : (d : Slot) → get_or mid first d ≡ get_or old first d
  last_same : (d : Slot) → get_or mid last d ≡ get_or old last d
  around : SameAround first (last + 1) old mid
  whole : AreWhole mid
  within : EndWithin old → EndWithin mid
  names : NamesNoMore old mid
  views : (leaf : LeafText) (texts : List CowStr) (links : List Link) → shown_slots leaf texts links mid ≡ inner_used width first last (shown_slots leaf texts links old)

inner-same : (width first last : ℕ) (old mid : List Slot) → mid ≡ old → ((rows : List row.Slot) → inner_used width first last rows ≡ rows) → AreWhole old → IsInner width first last old mid
inner-same width first last old mid e none whole = subst (IsInner width first last old) (sym e) (record {
  first_same = λ d. refl;
  last_same = λ d. refl;
  around = around-same first (last + 1) old;
  whole = whole;
  within = λ h. h;
  names = no-more-same old;
  views = λ leaf texts links. sym (none (shown_slots leaf texts links old));
})

inner-facts : (width first last : ℕ) (old mid : List Slot) → ((d : Slot) → mid ≡ hidden_inside width first last d old) → AreWhole old → first + (width + width) ≤ last + 1 → last < length old
    → ((j : ℕ) (d : Slot) → j < width → (get_or old (first + j) d).kind ≡ kind.Text) → ((j : ℕ) (d : Slot) → j < width → (get_or old (last + 1 - suc j) d).kind ≡ kind.Text) → IsInner width first last old mid
inner-facts zero first last old mid e whole wide within opens closes = inner-same zero first last old mid (e no-slot) (λ rows. refl) whole
inner-facts (suc zero) first last old mid e whole wide within opens closes = inner-same 1 first last old mid (e no-slot) (λ rows. refl) whole
inner-facts (suc (suc n)) first last old mid e whole wide within opens closes = subst (IsInner (suc (suc n)) first last old) (sym (e no-slot)) (record {
  first_same = λ d. get_or-set_other one (last - 1) first other d (λ (q : first ≡ last - 1). absurd (omega (arith, q, wide))) ∙ get_or-set_other old (first + 1) first second d (λ (q : first ≡ first + 1). absurd (omega (arith, q)));
  last_same = λ d. get_or-set_other one (last - 1) last other d (λ (q : last ≡ last - 1). absurd (omega (arith, q, wide))) ∙ get_or-set_other old (first + 1) last second d (λ (q : last ≡ first + 1). absurd (omega (arith, q, wide)));
  around =
      around-on first (last + 1) old one two (around-wider (first + 1) first (suc (first + 1)) (last + 1) old one (omega arith) (omega (arith, wide)) (same-set (first + 1) second old))
      (around-wider (last - 1) first (suc (last - 1)) (last + 1) one two (omega (arith, wide)) (omega (arith, wide)) (same-set (last - 1) other one));
  whole = whole-set one (last - 1) other no-slot once (let m = length-set old (first + 1) second in let q : last - 1 < length one = omega (arith, m, within) in q) text (λ i. refl);
  within = λ h. within-set one (last - 1) other (within-set old (first + 1) second h (λ i. refl)) (λ i. refl);
  names = no-more-on old one two (no-more-set old (first + 1) second (refl, refl, refl)) (no-more-set one (last - 1) other (refl, refl, refl));
  views = λ leaf texts links.
      sym (blank-view leaf texts links one two (last - 1) (get_or one (last - 1) no-slot) refl)
      ∙ ap (λ (l : List row.Slot). set l (last - 1) row.NothingSlot) (sym (blank-view leaf texts links old one (first + 1) (get_or old (first + 1) no-slot) refl) ∙ ap (λ k. set (shown_slots leaf texts links old) k row.NothingSlot) (let q : first + 1 ≡ suc first = omega arith in q));
})
  where
    second : Slot
    second = hidden (get_or old (first + 1) no-slot)

    one : List Slot
    one = set old (first + 1) second

    other : Slot
    other = hidden (get_or one (last - 1) no-slot)

    two : List Slot
    two = set one (last - 1) other

    once : AreWhole one
    once = whole-set old (first + 1) second no-slot whole (omega (arith, within, wide)) (opens 1 no-slot (omega arith)) (λ i. refl)

    text : (get_or one (last - 1) no-slot).kind ≡ kind.Text
    text =
        ap (λ (s : Slot). s.kind) (get_or-set_other old (first + 1) (last - 1) second no-slot (λ (q : last - 1 ≡ first + 1). absurd (omega (arith, q, wide))))
        ∙ ap (λ k. (get_or old k no-slot).kind) (let q : last - 1 ≡ last + 1 - 2 = omega arith in q)
        ∙ closes 1 no-slot (omega arith)

-- ## A span

pub record IsSpanned (options : Options) (span : Span) (old new : List Slot) : Type 0 where
  pub around : SameAround span.start span.end old new
  pub whole : AreWhole new
  pub within : EndWithin old → EndWithin new
  pub names : NamesNoMore old new
  pub views : (leaf : LeafText) (texts : List CowStr) (links : List Link) → shown_slots leaf texts links new ≡ write_span options span (shown_slots leaf texts links old)

module _ (options : Options) (k : code_kind.SpanKind) (first last : ℕ) (old mid : List Slot) (can : CanWrite old (span_between k first last ∷ [])) where
  abbrev span : Span
  span = span_between k first last

  abbrev width : ℕ
  width = span_width (shown_kind k)

  pub first-before : first + width ≤ last
  first-before =
      let wide = can.texts.0.wide in
      let least = (wide-enough (shown_kind k)).0 in
      omega (arith, wide, least)

  pub last-there : last < length old
  last-there = let w = can.texts.0.within in omega (arith, w)

  below : first < last
  below =
      let l = first-before in
      let least = (wide-enough (shown_kind k)).0 in
      omega (arith, l, least)

  first-text : (d : Slot) → (get_or old first d).kind ≡ kind.Text
  first-text d = ap (λ n. (get_or old n d).kind) (let q : first ≡ first + 0 = omega arith in q) ∙ can.texts.0.opening 0 d (wide-enough (shown_kind k)).0

  last-text : (d : Slot) → (get_or old last d).kind ≡ kind.Text
  last-text d = ap (λ n. (get_or old n d).kind) (let q : last ≡ last + 1 - 1 = omega arith in q) ∙ can.texts.0.closing 0 d (wide-enough (shown_kind k)).0

  order : (d : Slot) → (get_or old first d).end ≤ (get_or old last d).end
  order d = subst (λ n. (get_or old first d).end ≤ (get_or old n d).end) (let q : last + 1 - 1 ≡ last = omega arith in q) (can.texts.0.order d)

  module _ (inside : (d : Slot) → mid ≡ hidden_inside width first last d old) where
    inner : IsInner width first last old mid
    inner = inner-facts width first last old mid inside can.whole can.texts.0.wide last-there can.texts.0.opening can.texts.0.closing

    pub mid-there : last < length mid
    mid-there = let n = inner.around.size in let l = last-there in omega (arith, n, l)

    mid-first : (d : Slot) → (get_or mid first d).kind ≡ kind.Text
    mid-first d = ap (λ (s : Slot). s.kind) (inner.first_same d) ∙ first-text d

    pub mid-last : (d : Slot) → (get_or mid last d).kind ≡ kind.Text
    mid-last d = ap (λ (s : Slot). s.kind) (inner.last_same d) ∙ last-text d

    pub mid-whole : AreWhole mid
    mid-whole = inner.whole

    mid-order : (d : Slot) → (get_or mid first d).end ≤ (get_or mid last d).end
    mid-order d = subst (λ (s : Slot). s.end ≤ (get_or mid last d).end) (sym (inner.first_same d)) (subst (λ (s : Slot). (get_or old first d).end ≤ s.end) (sym (inner.last_same d)) (order d))

    -- the model's writing of the span, on the slots whose inner bytes are written
    written-so : (leaf : LeafText) (texts : List CowStr) (links : List Link) → spanned (span_tag options (shown_kind k)) first last (shown_slots leaf texts links mid) ≡ write_span options span (shown_slots leaf texts links old)
    written-so leaf texts links =
        ap (spanned (span_tag options (shown_kind k)) first last) (inner.views leaf texts links)
        ∙ ap (λ n. spanned (span_tag options (shown_kind k)) first n (inner_used width first n (shown_slots leaf texts links old))) (let q : last ≡ last + 1 - 1 = omega arith in q)

    pub element-written : (new : List Slot) (el : Element) → ((d : Slot) → new ≡ set (set mid last (ended (get_or mid last d))) first (begun_as (kind.Begin el) (get_or mid last d).end (get_or mid first d)))
        → span_tag options (shown_kind k) ≡ Some (emphasis_tag el) → IsSpanned options span old new
    element-written new el is tag =
        let a : Slot = ended (get_or mid last no-slot) in
        let f : Slot = begun_as (kind.Begin el) (get_or mid last no-slot).end (get_or mid first no-slot) in
        let lt = below in
        let there = mid-there in
        let n = length-set mid last a in
        let once = whole-set mid last a no-slot mid-whole there (mid-last no-slot) (λ i. refl) in
        let other : get_or (set mid last a) first no-slot ≡ get_or mid first no-slot = get_or-set_other mid last first a no-slot (λ (q : first ≡ last). absurd (omega (arith, q, lt))) in
        subst (IsSpanned options span old) (sym (is no-slot)) (record {
          around = around-on first (last + 1) old mid (set (set mid last a) first f) inner.around (around-wider first first (suc last) (last + 1) mid (set (set mid last a) first f) (omega arith) (omega arith) (same-sets first last a f mid lt));
          whole = whole-set (set mid last a) first f no-slot once (let q : first < length (set mid last a) = omega (arith, n, lt, there) in q) (ap (λ (x : Slot). x.kind) other ∙ mid-first no-slot) (λ i. refl);
          within = λ h. within-set (set mid last a) first f (within-set mid last a (inner.within h) (λ i. refl)) (λ i. refl);
          names =
              no-more-on old mid (set (set mid last a) first f) inner.names
              (no-more-on mid (set mid last a) (set (set mid last a) first f) (no-more-set mid last a (refl, refl, refl)) (no-more-set (set mid last a) first f (refl, refl, refl)));
          views = λ leaf texts links.
              some-view leaf texts links mid first last el lt there mid-first mid-last mid-order
              ∙ ap (λ t. spanned t first last (shown_slots leaf texts links mid)) (sym tag)
              ∙ written-so leaf texts links;
        })

    pub text-written : (new : List Slot) → Merges first last mid new → span_tag options (shown_kind k) ≡ None → IsSpanned options span old new
    text-written new m tag =
        let lt = below in
        let there = mid-there in
        record {
          around = around-on first (last + 1) old mid new inner.around (around-wider first first (suc last) (last + 1) mid new (omega arith) (omega arith) (same-merges first last mid new m lt));
          whole = whole-merges first last mid new m mid-whole lt there mid-first;
          within = λ h. within-merges first last mid new m lt there (inner.within h);
          names = no-more-on old mid new inner.names (no-more-merges first last mid new no-slot m);
          views = λ leaf texts links.
              none-view leaf texts links mid new first last m lt there mid-first mid-last mid-order
              ∙ ap (λ t. spanned t first last (shown_slots leaf texts links mid)) (sym tag)
              ∙ written-so leaf texts links;
        }

-- ## Spans that are written one after the other

-- of all these spans some are left, and the slots have become these
pub record WritesOn (options : Options) (all left : List Span) (old now : List Slot) : Type 0 where
  pub keeps : KeepsSlots old now
  pub can : CanWrite now left
  pub others : (others : List Span) → CanWrite old (all ++ others) → CanWrite now (left ++ others)
  pub before : (low : ℕ) → BeginFrom low all → SameBefore low old now × BeginFrom low left
  pub views : (leaf : LeafText) (texts : List CowStr) (links : List Link) → write_spans options left (shown_slots leaf texts links now) ≡ write_spans options all (shown_slots leaf texts links old)

-- some more of them are written
pub writes-more : (options : Options) (all mine left : List Span) (old now new : List Slot) → WritesOn options all (mine ++ left) old now → KeepsSlots now new
    → ((others : List Span) → CanWrite now (mine ++ others) → CanWrite new others) → ((low : ℕ) → BeginFrom low mine → SameBefore low now new)
    → ((leaf : LeafText) (texts : List CowStr) (links : List Link) → shown_slots leaf texts links new ≡ write_spans options mine (shown_slots leaf texts links now)) → WritesOn options all left old new
writes-more options all mine left old now new w keeps others before views = record {
  keeps = keeps-on old now new w.keeps keeps;
  can = others left w.can;
  others = λ more h. others (left ++ more) (subst (CanWrite now) (append_assoc mine left more) (w.others more h));
  before = λ low h.
      let b = w.before low h in
      let parts = begin-first low mine left b.1 in
      ((λ k d lt. before low parts.0 k d lt ∙ b.0 k d lt), parts.1);
  views = λ leaf texts links. ap (write_spans options left) (views leaf texts links) ∙ sym (write-more options mine left (shown_slots leaf texts links now)) ∙ w.views leaf texts links;
}

-- one more is written
pub writes-one : (options : Options) (all left : List Span) (span : Span) (old now new : List Slot) → WritesOn options all (span ∷ left) old now → KeepsSlots now new
    → ((others : List Span) → CanWrite now (span ∷ others) → CanWrite new others) → SameBefore span.start now new
    → ((leaf : LeafText) (texts : List CowStr) (links : List Link) → shown_slots leaf texts links new ≡ write_span options span (shown_slots leaf texts links now)) → WritesOn options all left old new
writes-one options all left span old now new w keeps others before views =
    writes-more options all (span ∷ []) left old now new w keeps others (λ low h. λ k d lt. let l = h.0 in before k d (omega (arith, lt, l))) views

-- the next span of a pair
pub next-spans : (k : code_kind.SpanKind) (delimiter left width from to : ℕ) → width ≡ span_width (shown_kind k) → 1 ≤ width → kinds_of delimiter left ≡ shown_kind k ∷ kinds_of delimiter (left - span_width (shown_kind k))
    → spans_around (kinds_of delimiter left) from to ≡ span_between k (from - width) (to + width - 1) ∷ spans_around (kinds_of delimiter (left - width)) (from - width) (to + width)
next-spans k delimiter left width from to w least e =
    ap (λ ks. spans_around ks from to) e
    ∙ ap (λ (n : ℕ). record { kind = shown_kind k; start = from - n; end = to + n } ∷ spans_around (kinds_of delimiter (left - n)) (from - n) (to + n)) (sym w)
    ∙ ap (λ (n : ℕ). record { kind = shown_kind k; start = from - width; end = n } ∷ spans_around (kinds_of delimiter (left - width)) (from - width) (to + width)) (let q : to + width ≡ to + width - 1 + 1 = omega (arith, least) in q)

pub none-left : (delimiter left from to : ℕ) → left ≡ 0 → spans_around (kinds_of delimiter left) from to ≡ []
none-left delimiter left from to e = ap (λ n. spans_around (kinds_of delimiter n) from to) e ∙ ap (λ ks. spans_around ks from to) (kinds-none delimiter)

pub pairs-next : (pairs : List code_pair.Pair) (i : ℕ) (d : code_pair.Pair) → i < length pairs → map shown_pair (drop i pairs) ≡ shown_pair (get_or pairs i d) ∷ map shown_pair (drop (i + 1) pairs)
pairs-next pairs i d lt = ap (map shown_pair) (drop-cons pairs i d lt ∙ ap (λ n. get_or pairs i d ∷ drop n pairs) (let q : suc i ≡ i + 1 = omega arith in q))
