-- With the slot of an item, the grammar's pass has read the item.
use Rattle.std.specs.Prelude.{Option, ◌==◌, ◌&&◌, is_none, if◌then◌else◌}
use Rattle.std.proofs.Common.{◌≡◌, ◌⊎◌, inl, inr, ℕ, suc, ◌+◌, ◌-◌, ◌<◌, ◌≤◌, Bool, true, false, List, [], ◌∷◌, ◌++◌, length, drop, get_or, refl, sym, ap, ◌∙◌, subst, arith, eqb-true, true≢false}
use Rattle.std.proofs.Math.Seq.{drop-cons}
use Rattle.std.proofs.lemmas.List.{append-nil, get_or_push, length-append, length_push}
use Rattle.cmark_grammar.specs.Autolinks.{autolink_in}
use Rattle.cmark_grammar.specs.Columns.{is_blank_byte}
use Rattle.cmark_grammar.specs.InlineTokens.{from, is_plain, item_at, longest, plain_end, token}
use Rattle.cmark_grammar.specs.Items.{ItemKind, Plain, Quoted, Delimiters, Autolink, FootnoteReference, Item, Stands}
use Rattle.cmark_grammar.specs.LeafReading.{Between}
use Rattle.cmark_grammar.specs.LeafText.{Leaf}
use Rattle.cmark_grammar.specs.Lines.{is_content}
use Rattle.cmark_grammar.specs.Readers.{Reader}
use Rattle.cmark_leaf_text.specs.Reads.{text_of, is_cell_of}
use Rattle.cmark_leaf_text.specs.declared.leaf_text.LeafText.{LeafText}
use Rattle.cmark_values.specs.declared.text.CowStr.{CowStr}
use Rattle.cmark_inline_model.specs.PlacedTokens.{StopsAt, may_open_markup, placed, placed_item, one_stretch, text_reader}
use Rattle.cmark_inline_model.specs.RowPasses.{has_own_slot}
use Rattle.cmark_inline.specs.CursorProgress.{HasReached}
use Rattle.cmark_inline.specs.LeastSteps.{Tally, closers_of, visited_in}
use Rattle.cmark_inline.specs.Reached.{ReadsPlaces}
use Rattle.cmark_inline.specs.Sound.{IsSound}
use Rattle.cmark_inline.specs.Stands as stands
use Rattle.cmark_slots.specs.Slots.{IsSlot, PushesText}
use Rattle.cmark_inline.specs.Tokens.{Appends, BeginsThere, Says, begins_at, opens_markup}
use Rattle.cmark_inline.specs.declared.callback.BrokenLink.{BrokenLink}
use Rattle.cmark_slots.specs.declared.slot.Slot.{Slot}
use Rattle.cmark_slots.specs.declared.slot.SlotKind.{SlotKind}
use Rattle.cmark_inline.specs.declared.state.InlineState.{InlineState}
use Rattle.cmark_inline.specs.declared.step.Cursor.{Cursor}
use Rattle.cmark_inline.specs.declared.step.Sought.{Sought}
use Rattle.cmark_inline.proofs.ItemSlots.{slot-like}
use Rattle.cmark_inline.proofs.Keeping.{keeps-pending}
use Rattle.cmark_inline.proofs.PassedTags.{tag-passes}
use Rattle.cmark_slots.proofs.Longer.{shown-longer}
use Rattle.cmark_inline.proofs.PendingReads.{flushed-reached, item-within, stops-there, token-placed}
use Rattle.cmark_inline.proofs.PlainChains.{IsHeld, before-or-following}
use Rattle.cmark_inline.proofs.ReachedItems.{item-reached}
use Rattle.cmark_inline.proofs.VisitedTokens.{starts-there}

-- an item that a slot represents has a slot of its own
pub says-own : (cell : Bool) (text : List ℕ) (texts : List CowStr) (start end : ℕ) (x : ItemKind) (k : SlotKind) → Says cell text texts start end x k → has_own_slot x ≡ true
says-own cell text texts start end (Quoted quote) k h = absurd h
says-own cell text texts start end (Delimiters run) k h = absurd h
says-own cell text texts start end (Autolink uri) k h = absurd h
says-own cell text texts start end (FootnoteReference label) k h = absurd h
says-own cell text texts start end _ k h = refl

-- a byte opens markup only if it is a `<` with a `!` or a `?` after it
pub no-markup-at : (emails : Bool) (text : List ℕ) (at : ℕ) → at < length text → (get_or text at 0 ≡ 60 → opens_markup (drop (at + 1) text) ≡ false) → may_open_markup emails (drop at text) ≡ false
no-markup-at emails text at lt h = ap (may_open_markup emails) (drop-cons text at 0 lt) ∙ go (get_or text at 0 == 60) refl
  where
    none : Bool
    none = is_none (autolink_in emails (drop (suc at) text))

    never : (z : Bool) → (z && false) ≡ false
    never true = refl
    never false = refl

    go : (z : Bool) → (get_or text at 0 == 60) ≡ z → ((get_or text at 0 == 60) && (none && opens_markup (drop (suc at) text))) ≡ false
    go false e = ap (λ z. z && (none && opens_markup (drop (suc at) text))) e
    go true e =
        ap (λ z. z && (none && opens_markup (drop (suc at) text))) e
        ∙ ap (λ z. none && z) (ap (λ n. opens_markup (drop n text)) (let q : suc at ≡ at + 1 = omega arith in q) ∙ h (eqb-true (get_or text at 0) 60 e))
        ∙ never none

-- the state `old` with these slots, which fit into the capacity of `new`
abbrev pub with_slots : (old new : InlineState) → (front : List Slot) → length front ≤ new.slots.cap → InlineState
with_slots old new front le = record old { slots = record new.slots { len = length front; items = front; ok = (refl, le) } }

pub has-room : (new : InlineState) (front more : List Slot) → new.slots.items ≡ front ++ more → length front ≤ new.slots.cap
has-room new front more e = let n = length-append front more in let m = ap length e in let a = new.slots.ok.0 in let b = new.slots.ok.1 in omega (arith, n, m, a, b)

module _ (leaf : LeafText) (reader : Reader) (read : Leaf) (place : ℕ → ℕ) (r : ReadsPlaces leaf reader read place) where
  abbrev text : List ℕ
  text = text_of leaf

  abbrev cell : Bool
  cell = is_cell_of leaf

  -- an item that is no literal text is the token at its place of the source
  pub other-token : (at : ℕ) (x : Item) (resume : ℕ) → at ≤ length text → begins_at reader.options reader.lookup cell text at ≡ Stands x resume → is_plain x.kind ≡ false → may_open_markup reader.options.email_autolinks (drop at text) ≡ false
      → token reader read (place at) ≡ Stands (placed_item place x) (place resume)
  unfolding token
  other-token at x resume le t own none =
      token-placed leaf reader read place r at le none
      ∙ ap (λ y. placed place (longest (text_reader reader.options reader.lookup text) (one_stretch cell text) y)) t
      ∙ ap (λ z. placed place (if z then item_at Plain x.start (plain_end (text_reader reader.options reader.lookup text) (one_stretch cell text) (length (from (text_reader reader.options reader.lookup text) (one_stretch cell text) resume)) resume) else Stands x resume)) own

  module _ {F : Type 0} (R : F → BrokenLink → Option (CowStr × CowStr) → F → Type 0) (before : Between) (tally : Tally) (initial now : F) where
    abbrev Reached : ℕ → InlineState → Type 0
    Reached at state = HasReached R leaf reader read place before tally initial at state now

    -- the pending text has its slot
    pub flushed : (m start to : ℕ) (old new : InlineState) (front : List Slot) (le : length front ≤ new.slots.cap) → Reached m old → IsHeld reader.options reader.lookup cell text m start to → to ≤ length text
        → StopsAt (text_reader reader.options reader.lookup text) (one_stretch cell text) to → PushesText start to old.slots.items front → Reached to (with_slots old new front le)
    flushed m start to old new front le h held within stops pushes = flushed-reached leaf reader read place r R before tally initial now m start to old (with_slots old new front le) h held within stops pushes refl

    module _ (was : Sought) (here : Cursor) (m : ℕ) (old new : InlineState) (next : Cursor) (sound : IsSound old) (h : HasReached R leaf reader read place before (record tally { sought = was }) initial m old now) (stand : stands.Stands text next.pending new) where
      pub appends-reached : (a : Appends reader.options reader.lookup cell text here old new next) → IsHeld reader.options reader.lookup cell text m here.pending a.from → was.unclosed.passed ≤ tally.sought.unclosed.passed → closers_of a.item.kind + visited_in was ≤ visited_in tally.sought → Reached next.at new
      appends-reached a held passes visited =
          let front : List Slot = a.slots.before in
          let room = has-room new front (a.slot ∷ []) a.slots.slot_is in
          let mid : InlineState = with_slots old new front room in
          let w = item-within reader.options reader.lookup cell text a.from a.item next.at a.token in
          let further = w.further in
          let within = w.within in
          let flush : HasReached R leaf reader read place before (record tally { sought = was }) initial a.from mid now =
          flushed-reached leaf reader read place r R before (record tally { sought = was }) initial now m here.pending a.from old mid h held (omega (arith, further, within)) (stops-there reader.options reader.lookup cell text a.from (Stands a.item next.at) a.token a.own) a.slots.text refl in
          let n = length_push front a.slot in
          let there : length front < length new.slots.items = (let e = ap length a.slots.slot_is in omega (arith, e, n)) in
          let slot : IsSlot text next.pending a.slot =
          subst (IsSlot text next.pending) (ap (λ l. get_or l (length front) a.slot) a.slots.slot_is ∙ get_or_push front a.slot a.slot (length front) refl) (stand.slots (length front) a.slot there) in
          let some : a.item.start < a.item.end = (let p = slot.part.some in let s = a.is.start in let e = a.is.end in omega (arith, p, s, e)) in
          let inside : a.item.end ≤ length text = (let p = slot.part.within in let e = a.is.end in omega (arith, p, e)) in
          let none : may_open_markup reader.options.email_autolinks (drop a.from text) ≡ false = no-markup-at reader.options.email_autolinks text a.from (omega (arith, further, within)) (no-less a) in
          let others = a.others in
          let lt : a.from < length text = omega (arith, further, within) in
          item-reached leaf reader read place before R tally initial now was a.from next.at mid new flush (omega (arith, further))
          (record { examined = ap (λ (s : InlineState). s.delimiters.examined) others; brackets = ap (λ (s : InlineState). s.brackets) others; doubled = ap (λ (s : InlineState). s.doubled) others; expansion_left = ap (λ (s : InlineState). s.expansion_left) others; label = ap (λ (s : InlineState). s.label_close) others })
          (shown-longer leaf old.texts.items new.texts.items a.owned old.links.items new.links.items [] front a.texts (ap (λ (s : InlineState). s.links.items) others ∙ sym (append-nil old.links.items))
          ((keeps-pending old mid refl here.pending a.from a.slots.text).sound sound).named)
          a.item.kind (place a.item.start) (suc (place (a.item.end - 1))) a.slot
          (other-token a.from a.item next.at (omega (arith, further, within)) a.token a.own none)
          (says-own cell text new.texts.items a.slot.start a.slot.end a.item.kind a.slot.kind a.is.says)
          (slot-like leaf reader read place r.places r.cell r.bytes new.texts.items new.links.items a.slot a.item a.from next.at a.token none a.is some inside)
          a.slots.slot_is (ap (λ (s : InlineState). s.delimiters.placed.items) others) (ap (λ (s : InlineState). s.quotes.placed.items) others)
          (record { html = (let n = tag-passes leaf reader read place r a.from a.item.start a.item.end a.item.kind lt inside (starts-there reader.options reader.lookup cell text a.from lt a.item next.at a.token) (no-less a) in omega (arith, n, passes)); closers = visited })
        where
          no-less : (a : Appends reader.options reader.lookup cell text here old new next) → get_or text a.from 0 ≡ 60 → opens_markup (drop (a.from + 1) text) ≡ false
          no-less a is = go a.there (before-or-following here.at a.from)
            where
              go : BeginsThere text here a.from → (here.at ≤ a.from) ⊎ (a.from < here.at) → opens_markup (drop (a.from + 1) text) ≡ false
              go (inl t) x = ap (λ n. opens_markup (drop (n + 1) text)) t.0 ∙ t.2 (ap (λ n. get_or text n 0) (sym t.0) ∙ is)
              go (inr t) (inl le) = absurd (let b = a.before in let e : a.from ≡ here.at = omega (arith, b, le) in true≢false (sym (ap (λ n. is_content (get_or text n 0)) (sym e) ∙ ap is_content is) ∙ t.0))
              go (inr t) (inr lt) = absurd (true≢false (sym (a.blanks a.from (omega arith) lt) ∙ ap is_blank_byte is))
