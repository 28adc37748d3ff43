-- Slots as slots of the model, whose texts and links are moved out one after the other.
use Rattle.std.proofs.Common.{◌≡◌, ◌≢◌, ℕ, suc, ◌<◌, ◌+◌, drop, List, [], ◌∷◌, ◌++◌, length, get_or, true, Option, Some, None, Result, Ok, Err, refl, sym, ap, subst, ◌∙◌, arith}
use Rattle.std.specs.Prelude.{All, IfOk, OnOk, map, reverse}
use Rattle.std.proofs.Math.Seq.{drop-cons}
use Rattle.std.proofs.lemmas.List.{reverse-append, map-append}
use Rattle.cmark_grammar.specs.Event as event
use Rattle.cmark_grammar.specs.Event.{Ranged}
use Rattle.cmark_grammar.specs.InlineReading.{over}
use Rattle.cmark_grammar.specs.TagEnd.{end_of}
use Rattle.cmark_inline_model.specs.SlotRows as row
use Rattle.cmark_inline_model.specs.SlotRows.{slot_events}
use Rattle.cmark_leaf_text.specs.Reads.{source_of}
use Rattle.cmark_leaf_text.specs.declared.leaf_text.LeafText.{LeafText}
use Rattle.cmark_values.specs.declared.text.CowStr.{CowStr}
use Rattle.cmark_text.specs.Ranged.{shown_ranged}
use Rattle.cmark_text.specs.declared.ranged.Ranged.{Ranged as Given}
use Rattle.cmark_slot_events.specs.Longs.{is_long}
use Rattle.cmark_slots.specs.SlotViews.{slot_as, shown_slot, shown_slots, first_of, slot_end, text_named, link_named, link_tag, linked_at, IsThere, Differ, AreOnce, EndsAfter, CanBeGiven}
use Rattle.cmark_slot_events.specs.Events.{shown_open, shown_opened, events_of, event_as, held_in, KeepsOthers}
use Rattle.cmark_slot_events.specs.declared.leaf_events.Opened.{Opened}
use Rattle.cmark_references.specs.declared.link.Link.{Link}
use Rattle.cmark_slots.specs.declared.slot.LinkElement.{LinkElement}
use Rattle.cmark_slots.specs.declared.slot.Slot.{Slot}
use Rattle.cmark_slots.specs.declared.slot.SlotKind.{SlotKind}
use Rattle.cmark_slots.specs.declared.slot.SlotKind.TheVariants as kind
use Rattle.cmark_slots.proofs.Longer.{SameAt, same-slot}

-- ## Tables from which something is taken

pub keeps-all : {X : Type 0} (taken : Option ℕ) (xs : List X) → KeepsOthers taken xs xs
keeps-all taken xs = record { size = refl; others = λ i differ. refl }

pub keeps-same : {X : Type 0} (taken : Option ℕ) (old new : List X) → new ≡ old → KeepsOthers taken old new
keeps-same taken old new e = subst (KeepsOthers taken old) (sym e) (keeps-all taken old)

none-some : (i : ℕ) → None ≢ Some i
none-some i e = cc

same-at : {X : Type 0} (taken named : Option ℕ) (old new : List X) → KeepsOthers taken old new → Differ taken named → SameAt named old new
same-at taken None old new k d = tt
same-at None (Some index) old new k d = k.others index (none-some index)
same-at (Some other) (Some index) old new k d = k.others index (λ e. d (sym e))

-- ## Slots whose texts and links are there as before

module _ (leaf : LeafText) (texts texts1 : List CowStr) (links links1 : List Link) where
  abbrev AllDiffer : (SlotKind → Option ℕ) → Option ℕ → List Slot → Type 0
  AllDiffer named taken slots = All (λ (slot : Slot). Differ taken (named slot.kind)) slots

  same-slots : (slots : List Slot) (text link : Option ℕ) → KeepsOthers text texts texts1 → KeepsOthers link links links1 → AllDiffer text_named text slots → AllDiffer link_named link slots
      → shown_slots leaf texts1 links1 slots ≡ shown_slots leaf texts links slots
  same-slots [] text link ts ls dt dl = refl
  same-slots (slot ∷ slots) text link ts ls dt dl =
      let zero-in : 0 < length (slot ∷ slots) = omega arith in
      let first : shown_slot leaf texts1 links1 slot ≡ shown_slot leaf texts links slot =
      same-slot leaf texts texts1 links links1 slot slot.kind (same-at text (text_named slot.kind) texts texts1 ts (dt 0 slot zero-in)) (same-at link (link_named slot.kind) links links1 ls (dl 0 slot zero-in)) in
      let after = same-slots slots text link ts ls (λ k d lt. dt (suc k) d (let q : suc k < length (slot ∷ slots) = omega (arith, lt) in q)) (λ k d lt. dl (suc k) d (let q : suc k < length (slot ∷ slots) = omega (arith, lt) in q)) in
      ap (λ x. x ∷ shown_slots leaf texts1 links1 slots) first ∙ ap (λ l. shown_slot leaf texts links slot ∷ l) after

-- if each slot names things of its own, the slots after the first name nothing that the first one names
differ-following : (named : SlotKind → Option ℕ) (slot : Slot) (slots : List Slot) → AreOnce named (slot ∷ slots) → All (λ (s : Slot). Differ (named slot.kind) (named s.kind)) slots
differ-following named slot slots once k d lt = once 0 (suc k) d (omega arith) (let q : suc k < length (slot ∷ slots) = omega (arith, lt) in q)

once-following : (named : SlotKind → Option ℕ) (slot : Slot) (slots : List Slot) → AreOnce named (slot ∷ slots) → AreOnce named slots
once-following named slot slots once i j d lt within = once (suc i) (suc j) d (omega (arith, lt)) (let q : suc j < length (slot ∷ slots) = omega (arith, within) in q)

all-following : (P : Slot → Type 0) (slot : Slot) (slots : List Slot) → All P (slot ∷ slots) → All P slots
all-following P slot slots all k d lt = all (suc k) d (let q : suc k < length (slot ∷ slots) = omega (arith, lt) in q)

there-in : (m n : ℕ) (named : Option ℕ) → m ≡ n → IsThere n named → IsThere m named
there-in m n named e there = subst (λ k. IsThere k named) (sym e) there

module _ (leaf : LeafText) (texts texts1 : List CowStr) (links links1 : List Link) (slot : Slot) (slots : List Slot) where
  -- the things that the first slot names are moved out, and the later slots keep their meaning
  pub seen-following : CanBeGiven leaf texts links (slot ∷ slots) → KeepsOthers (text_named slot.kind) texts texts1 → KeepsOthers (link_named slot.kind) links links1
      → shown_slots leaf texts1 links1 slots ≡ shown_slots leaf texts links slots
  seen-following h ts ls =
      same-slots leaf texts texts1 links links1 slots (text_named slot.kind) (link_named slot.kind) ts ls (differ-following text_named slot slots h.texts_once) (differ-following link_named slot slots h.links_once)

  pub left-following : CanBeGiven leaf texts links (slot ∷ slots) → KeepsOthers (text_named slot.kind) texts texts1 → KeepsOthers (link_named slot.kind) links links1 → CanBeGiven leaf texts1 links1 slots
  left-following h ts ls = record {
    texts_there = λ k d lt. there-in (length texts1) (length texts) (text_named (get_or slots k d).kind) ts.size (all-following (λ (s : Slot). IsThere (length texts) (text_named s.kind)) slot slots h.texts_there k d lt);
    links_there = λ k d lt. there-in (length links1) (length links) (link_named (get_or slots k d).kind) ls.size (all-following (λ (s : Slot). IsThere (length links) (link_named s.kind)) slot slots h.links_there k d lt);
    texts_once = once-following text_named slot slots h.texts_once;
    links_once = once-following link_named slot slots h.links_once;
    ends = all-following (λ (s : Slot). EndsAfter leaf s s.kind) slot slots h.ends;
  }

-- ## Elements that are open

pub opened-more : (opened : List Opened) (one : Opened) → shown_opened (opened ++ (one ∷ [])) ≡ shown_open one ∷ shown_opened opened
opened-more opened one = ap reverse (map-append shown_open opened (one ∷ [])) ∙ reverse-append (map shown_open opened) (shown_open one ∷ [])

-- ## The events of the first slot

module _ (leaf : LeafText) (texts : List CowStr) (links : List Link) (slot : Slot) (slots : List Slot) (opened : List Opened) where
  by-kind : (k : SlotKind) → slot.kind ≡ k → events_of leaf texts links (slot ∷ slots) opened ≡ slot_events (source_of leaf) (slot_as leaf texts links slot k ∷ shown_slots leaf texts links slots) (shown_opened opened)
  by-kind k e = ap (λ (x : SlotKind). slot_events (source_of leaf) (slot_as leaf texts links slot x ∷ shown_slots leaf texts links slots) (shown_opened opened)) e

  abbrev begins : LinkElement → (index : ℕ) → Ranged
  begins e index = over (source_of leaf) (first_of leaf slot) (slot_end leaf slot) (event.Start (link_tag e (linked_at links index)))

  abbrev closes : LinkElement → (index : ℕ) → Ranged
  closes e index = over (source_of leaf) (first_of leaf slot) (slot_end leaf slot) (event.End (end_of (link_tag e (linked_at links index))))

  -- an element begins
  begin-first : (texts1 : List CowStr) (links1 : List Link) (opened1 : List Opened) (given : Given) (e : LinkElement) (index : ℕ) → slot.kind ≡ kind.BeginLink e index → CanBeGiven leaf texts links (slot ∷ slots)
      → texts1 ≡ texts → KeepsOthers (Some index) links links1 → shown_ranged given ≡ begins e index → shown_opened opened1 ≡ closes e index ∷ shown_opened opened
      → events_of leaf texts links (slot ∷ slots) opened ≡ shown_ranged given ∷ events_of leaf texts1 links1 slots opened1
  begin-first texts1 links1 opened1 given e index is h ts ls g o =
      let seen = seen-following leaf texts texts1 links links1 slot slots h (keeps-same (text_named slot.kind) texts texts1 ts) (subst (λ (k : SlotKind). KeepsOthers (link_named k) links links1) (sym is) ls) in
      by-kind (kind.BeginLink e index) is
      ∙ ap (λ l. begins e index ∷ slot_events (source_of leaf) (shown_slots leaf texts links slots) l) (sym o)
      ∙ ap (λ l. begins e index ∷ slot_events (source_of leaf) l (shown_opened opened1)) (sym seen)
      ∙ ap (λ x. x ∷ events_of leaf texts1 links1 slots opened1) (sym g)

  -- a slot with a text, whose range is the range of its bytes
  single-kind : (k : SlotKind) → is_long k ≡ true → ((end : ℕ) → k ≡ kind.SourceHtml end → ⊥) → ((end : ℕ) → k ≡ kind.SourceText end → ⊥) → (k ≡ kind.Empty → ⊥) → ((e : LinkElement) (index : ℕ) → k ≡ kind.BeginLink e index → ⊥)
      → (rows : List row.Slot) (ends : List Ranged) → slot_events (source_of leaf) (slot_as leaf texts links slot k ∷ rows) ends ≡ over (source_of leaf) (first_of leaf slot) (slot_end leaf slot) (event_as k (held_in leaf texts slot k)) ∷ slot_events (source_of leaf) rows ends
  single-kind (kind.Whole last) long html text empty begin rows ends = cc
  single-kind kind.SoftBreak long html text empty begin rows ends = cc
  single-kind kind.HardBreak long html text empty begin rows ends = cc
  single-kind (kind.SourceHtml place) long html text empty begin rows ends = absurd (html place refl)
  single-kind (kind.SourceText place) long html text empty begin rows ends = absurd (text place refl)
  single-kind kind.Empty long html text empty begin rows ends = absurd (empty refl)
  single-kind (kind.Begin mark) long html text empty begin rows ends = cc
  single-kind (kind.BeginLink e index) long html text empty begin rows ends = absurd (begin e index refl)
  single-kind kind.End long html text empty begin rows ends = cc
  single-kind kind.Nothing long html text empty begin rows ends = cc
  single-kind _ long html text empty begin rows ends = refl

  single-first : (texts1 : List CowStr) (links1 : List Link) (opened1 : List Opened) (given : Given) → is_long slot.kind ≡ true → ((end : ℕ) → slot.kind ≡ kind.SourceHtml end → ⊥) → ((end : ℕ) → slot.kind ≡ kind.SourceText end → ⊥) → (slot.kind ≡ kind.Empty → ⊥)
      → ((e : LinkElement) (index : ℕ) → slot.kind ≡ kind.BeginLink e index → ⊥) → CanBeGiven leaf texts links (slot ∷ slots) → KeepsOthers (text_named slot.kind) texts texts1 → links1 ≡ links → opened1 ≡ opened
      → shown_ranged given ≡ over (source_of leaf) (first_of leaf slot) (slot_end leaf slot) (event_as slot.kind (held_in leaf texts slot slot.kind))
      → events_of leaf texts links (slot ∷ slots) opened ≡ shown_ranged given ∷ events_of leaf texts1 links1 slots opened1
  single-first texts1 links1 opened1 given long html text empty begin h ts ls o is =
      let seen = seen-following leaf texts texts1 links links1 slot slots h ts (keeps-same (link_named slot.kind) links links1 ls) in
      single-kind slot.kind long html text empty begin (shown_slots leaf texts links slots) (shown_opened opened)
      ∙ ap (λ x. x ∷ events_of leaf texts links slots opened) (sym is)
      ∙ ap (λ l. shown_ranged given ∷ slot_events (source_of leaf) l (shown_opened opened)) (sym seen)
      ∙ ap (λ (l : List Opened). shown_ranged given ∷ slot_events (source_of leaf) (shown_slots leaf texts1 links1 slots) (shown_opened l)) (sym o)

  -- the event of the first slot, if memory is not refused
  abbrev Gives-first : {E : Type 0} → Result Given E → (texts1 : List CowStr) (links1 : List Link) (opened1 : List Opened) → Type 0
  Gives-first result texts1 links1 opened1 = IfOk result (λ given. events_of leaf texts links (slot ∷ slots) opened ≡ shown_ranged given ∷ events_of leaf texts1 links1 slots opened1)

  pub begin-given : {E : Type 0} (result : Result Given E) (texts1 : List CowStr) (links1 : List Link) (opened1 : List Opened) (e : LinkElement) (index : ℕ) → slot.kind ≡ kind.BeginLink e index → CanBeGiven leaf texts links (slot ∷ slots)
      → texts1 ≡ texts → KeepsOthers (Some index) links links1 → IfOk result (λ start. shown_ranged start ≡ begins e index) → OnOk result (shown_opened opened1 ≡ closes e index ∷ shown_opened opened)
      → Gives-first result texts1 links1 opened1
  begin-given (Ok start) texts1 links1 opened1 e index is h ts ls g o = begin-first texts1 links1 opened1 start e index is h ts ls g o
  begin-given (Err error) texts1 links1 opened1 e index is h ts ls g o = tt

  pub single-given : {E : Type 0} (result : Result Given E) (texts1 : List CowStr) (links1 : List Link) (opened1 : List Opened) → is_long slot.kind ≡ true → ((end : ℕ) → slot.kind ≡ kind.SourceHtml end → ⊥) → ((end : ℕ) → slot.kind ≡ kind.SourceText end → ⊥) → (slot.kind ≡ kind.Empty → ⊥)
      → ((e : LinkElement) (index : ℕ) → slot.kind ≡ kind.BeginLink e index → ⊥) → CanBeGiven leaf texts links (slot ∷ slots) → KeepsOthers (text_named slot.kind) texts texts1 → links1 ≡ links → opened1 ≡ opened
      → IfOk result (λ single. shown_ranged single ≡ over (source_of leaf) (first_of leaf slot) (slot_end leaf slot) (event_as slot.kind (held_in leaf texts slot slot.kind)))
      → Gives-first result texts1 links1 opened1
  single-given (Ok single) texts1 links1 opened1 long html text empty begin h ts ls o g = single-first texts1 links1 opened1 single long html text empty begin h ts ls o g
  single-given (Err error) texts1 links1 opened1 long html text empty begin h ts ls o g = tt

-- a fact that holds in any case holds if memory is not refused
pub on-ok : {A E : Type 0} (r : Result A E) (P : Type 0) → P → OnOk r P
on-ok (Ok a) P p = p
on-ok (Err e) P p = tt

-- ## The next event

-- the text or link that the next slot names exists
pub named-there : (leaf : LeafText) (texts : List CowStr) (links : List Link) (slots : List Slot) (next : ℕ) (slot : Slot) → next < length slots → slot ≡ get_or slots next slot → CanBeGiven leaf texts links (drop next slots)
    → IsThere (length texts) (text_named slot.kind) × IsThere (length links) (link_named slot.kind)
named-there leaf texts links slots next slot lt is h =
    let s : drop next slots ≡ slot ∷ drop (suc next) slots = drop-cons slots next slot lt ∙ ap (λ x. x ∷ drop (suc next) slots) (sym is) in
    let here = subst (CanBeGiven leaf texts links) s h in
    let first : 0 < length (slot ∷ drop (suc next) slots) = omega arith in
    (here.texts_there 0 slot first, here.links_there 0 slot first)

module _ (leaf : LeafText) (texts texts1 : List CowStr) (links links1 : List Link) (slots slots1 : List Slot) (opened opened1 : List Opened) (next next1 : ℕ) (same : slots1 ≡ slots) (place : next1 ≡ next) where
  split : (slot : Slot) → next < length slots → slot ≡ get_or slots next slot → drop next slots ≡ slot ∷ drop (next1 + 1) slots1
  split slot lt is =
      drop-cons slots next slot lt
      ∙ ap (λ x. x ∷ drop (suc next) slots) (sym is)
      ∙ ap (λ l. slot ∷ drop (suc next) l) (sym same)
      ∙ ap (λ n. slot ∷ drop n slots1) (let q : suc next ≡ next1 + 1 = omega (arith, place) in q)

  -- after a slot
  pub events-following : (slot : Slot) (given : Given) → next < length slots → slot ≡ get_or slots next slot → CanBeGiven leaf texts links (drop next slots)
      → ((following : List Slot) → CanBeGiven leaf texts links (slot ∷ following) → events_of leaf texts links (slot ∷ following) opened ≡ shown_ranged given ∷ events_of leaf texts1 links1 following opened1)
      → events_of leaf texts links (drop next slots) opened ≡ shown_ranged given ∷ events_of leaf texts1 links1 (drop (next1 + 1) slots1) opened1
  events-following slot given lt is h gives =
      let s = split slot lt is in
      ap (λ (l : List Slot). events_of leaf texts links l opened) s ∙ gives (drop (next1 + 1) slots1) (subst (CanBeGiven leaf texts links) s h)

  pub left-next : (slot : Slot) → next < length slots → slot ≡ get_or slots next slot → CanBeGiven leaf texts links (drop next slots) → ((following : List Slot) → CanBeGiven leaf texts links (slot ∷ following) → CanBeGiven leaf texts1 links1 following)
      → CanBeGiven leaf texts1 links1 (drop (next1 + 1) slots1)
  left-next slot lt is h keeps = keeps (drop (next1 + 1) slots1) (subst (CanBeGiven leaf texts links) (split slot lt is) h)
