-- Calls that append slots preserve the facts about the state.
use Rattle.std.proofs.Common.{◌≡◌, ◌⊎◌, inl, inr, ℕ, zero, suc, ◌+◌, ◌-◌, ◌<◌, ◌≤◌, List, [], ◌∷◌, ◌++◌, length, get_or, Some, None, refl, sym, ap, subst, ◌∙◌, arith}
use Rattle.std.specs.Prelude.{Bool, true, false, if◌then◌else◌, IfSome, Option}
use Rattle.std.proofs.lemmas.Bool.{cases_lt}
use Rattle.std.proofs.lemmas.List.{length_push, length-append, get_or_append_left, get_or-append_right}
use Rattle.cmark_leaf_text.specs.declared.leaf_text.LeafText.{LeafText}
use Rattle.cmark_values.specs.declared.text.CowStr.{CowStr}
use Rattle.cmark_emphasis.specs.Counts.{IsKnownPlaced}
use Rattle.cmark_grammar.specs.Answers.{Lookup}
use Rattle.cmark_grammar.specs.Options.{Options}
use Rattle.cmark_leaf_text.specs.Reads.{place_of}
use Rattle.cmark_inline.specs.MarkupInSource.{IsFound}
use Rattle.cmark_slots.specs.MarkedSlots.{last_in}
use Rattle.cmark_slots.specs.SlotViews.{link_named, text_named}
use Rattle.cmark_slots.specs.Standing.{AreEnded, AreSound, StandsAlone, source_end, EndsIn}
use Rattle.cmark_inline.specs.Sound.{IsSound, IsTakenFrom, KeepsSound}
use Rattle.cmark_slots.specs.Slots.{AreSlots, HoldNoLink, PushesText, byte_slots}
use Rattle.cmark_inline.specs.Stands.{SameSpans, Stands}
use Rattle.cmark_inline.specs.Tokens.{AppendsQuote, Puts, PutsAutolink}
use Rattle.cmark_slots.specs.declared.bracket.Bracket.{Bracket}
use Rattle.cmark_emphasis.specs.declared.run.PlacedRun.{PlacedRun}
use Rattle.cmark_references.specs.declared.link.Link.{Link}
use Rattle.cmark_slots.specs.declared.quote.PlacedQuote.{PlacedQuote}
use Rattle.cmark_slots.specs.declared.slot.LinkElement.TheVariants as element
use Rattle.cmark_inline.specs.declared.markup.FoundHtml.{FoundHtml}
use Rattle.cmark_slots.specs.declared.slot.Slot.{Slot}
use Rattle.cmark_slots.specs.declared.slot.SlotKind.{SlotKind}
use Rattle.cmark_slots.specs.declared.slot.SlotKind.TheVariants as kind
use Rattle.cmark_inline.specs.declared.state.InlineState.{InlineState}
use Rattle.cmark_inline.specs.declared.step.Cursor.{Cursor}
use Rattle.cmark_slots.proofs.Naming.{adds-push, ended-on, no-more-push, one-ended}
use Rattle.cmark_slots.proofs.Soundness.{sound-link, sound-pending, sound-plain, sound-quote, sound-run, sound-text}

pub keeps-same : (state : InlineState) → KeepsSound state state
keeps-same state = record { sound = λ h. h; ends = λ leaf e. e }

pub keeps-on : (old mid new : InlineState) → KeepsSound old mid → KeepsSound mid new → KeepsSound old new
keeps-on old mid new a b = record { sound = λ h. b.sound (a.sound h); ends = λ leaf e. b.ends leaf (a.ends leaf e) }

-- ## The ends of slots

pub ended-pending : (leaf : LeafText) (old new : List Slot) (start text_end : ℕ) → PushesText start text_end old new → AreEnded leaf old → AreEnded leaf new
ended-pending leaf old new start text_end p e = go (cases_lt start text_end)
  where
    go : (start < text_end) ⊎ (text_end ≤ start) → AreEnded leaf new
    go (inl lt) =
        let s : Slot = record { kind = kind.Text; start = start; end = text_end } in
        subst (AreEnded leaf) (sym (p.0 lt)) (ended-on old (old ++ (s ∷ [])) (no-more-push old s (refl, refl, refl)) leaf e)
    go (inr le) = subst (AreEnded leaf) (sym (p.1 le)) e

pub ended-puts : (leaf : LeafText) (old new : List Slot) (start text_end : ℕ) (slot : Slot) → Puts start text_end slot old new → AreEnded leaf old → EndsIn leaf slot.end (source_end slot.kind) → AreEnded leaf new
ended-puts leaf old new start text_end slot p e s =
    subst (AreEnded leaf) (sym p.slot_is) (one-ended (length p.before) slot p.before (p.before ++ (slot ∷ [])) (adds-push p.before slot) leaf (ended-pending leaf old p.before start text_end p.text e) s)

ended-bytes : (leaf : LeafText) (slots : List Slot) (start size : ℕ) → AreEnded leaf slots → AreEnded leaf (slots ++ byte_slots start size)
ended-bytes leaf slots start size e = λ k d lt. go k d lt (cases_lt k (length slots))
  where
    bytes : (start size k : ℕ) (d : Slot) → k < length (byte_slots start size) → source_end (get_or (byte_slots start size) k d).kind ≡ None
    bytes start zero k d lt = absurd (omega (arith, lt))
    bytes start (suc size) zero d lt = refl
    bytes start (suc size) (suc k) d lt = bytes (start + 1) size k d (omega (arith, lt))

    go : (k : ℕ) (d : Slot) → k < length (slots ++ byte_slots start size) → (k < length slots) ⊎ (length slots ≤ k) → EndsIn leaf (get_or (slots ++ byte_slots start size) k d).end (source_end (get_or (slots ++ byte_slots start size) k d).kind)
    go k d lt (inl low) = subst (λ (s : Slot). EndsIn leaf s.end (source_end s.kind)) (sym (get_or_append_left slots (byte_slots start size) d k low)) (e k d low)
    go k d lt (inr g) =
        let n = length-append slots (byte_slots start size) in
        let is = get_or-append_right slots (byte_slots start size) (length slots) k d refl g in
        subst (λ o. EndsIn leaf (get_or (slots ++ byte_slots start size) k d).end o) (sym (ap (λ (s : Slot). source_end s.kind) is ∙ bytes start size (k - length slots) d (omega (arith, lt, n, g)))) tt

-- ## Slots alone

module _ (old new : InlineState) (others : new ≡ record old { slots = new.slots }) where
  pub keeps-pending : (start text_end : ℕ) → PushesText start text_end old.slots.items new.slots.items → KeepsSound old new
  keeps-pending start text_end p = record {
    sound = λ h. subst IsSound (sym others) (sound-pending (length old.texts.items) (length old.links.items) old.slots.items new.slots.items old.delimiters.placed.items old.quotes.placed.items old.brackets.standing.items old.doubled.standing.items start text_end p h);
    ends = λ leaf e. ended-pending leaf old.slots.items new.slots.items start text_end p e;
  }

  sound-puts : (start text_end : ℕ) (slot : Slot) → Puts start text_end slot old.slots.items new.slots.items → ((i : ℕ) → last_in slot.kind i ≡ i) → text_named slot.kind ≡ None → link_named slot.kind ≡ None → IsSound old → IsSound new
  sound-puts start text_end slot p alone bare none h =
      subst IsSound (sym others) (subst (λ l. AreSound (length old.texts.items) (length old.links.items) l old.delimiters.placed.items old.quotes.placed.items old.brackets.standing.items old.doubled.standing.items) (sym p.slot_is)
      (sound-plain (length old.texts.items) (length old.links.items) p.before old.delimiters.placed.items old.quotes.placed.items old.brackets.standing.items old.doubled.standing.items
      (sound-pending (length old.texts.items) (length old.links.items) old.slots.items p.before old.delimiters.placed.items old.quotes.placed.items old.brackets.standing.items old.doubled.standing.items start text_end p.text h) slot alone bare none))

  pub keeps-puts : (start text_end : ℕ) (slot : Slot) → Puts start text_end slot old.slots.items new.slots.items → StandsAlone slot.kind → KeepsSound old new
  keeps-puts start text_end slot p a = record {
    sound = λ h. sound-puts start text_end slot p a.1 a.0.0 a.0.1 h;
    ends = λ leaf e. ended-puts leaf old.slots.items new.slots.items start text_end slot p e (subst (λ o. EndsIn leaf slot.end o) (sym a.0.2) tt);
  }

  -- the slot may be a part of the source
  pub keeps-source : (start text_end : ℕ) (slot : Slot) → Puts start text_end slot old.slots.items new.slots.items → ((i : ℕ) → last_in slot.kind i ≡ i) → text_named slot.kind ≡ None → link_named slot.kind ≡ None → IsSound old → IsSound new
  keeps-source start text_end slot p alone bare none h = sound-puts start text_end slot p alone bare none h

-- ## Slots that name the next text or the next link

module _ (old between new : InlineState) (start text_end : ℕ) (slot : Slot) (puts : Puts start text_end slot old.slots.items new.slots.items) (owned : CowStr) (texts : between.texts.items ≡ old.texts.items ++ (owned ∷ [])) (others : new ≡ record between { slots = new.slots }) (rest : between ≡ record old { texts = between.texts })
    (names : text_named slot.kind ≡ Some (length old.texts.items)) (no_link : link_named slot.kind ≡ None) (no_end : source_end slot.kind ≡ None) (alone : (i : ℕ) → last_in slot.kind i ≡ i) where
  pub keeps-owned : KeepsSound old new
  keeps-owned = record {
    sound = λ h.
        let n = length_push old.texts.items owned in
        subst IsSound (sym others) (subst (λ (x : InlineState). IsSound (record x { slots = new.slots })) (sym rest)
        (subst (λ t. AreSound t (length old.links.items) new.slots.items old.delimiters.placed.items old.quotes.placed.items old.brackets.standing.items old.doubled.standing.items) (sym (ap length texts ∙ n))
        (subst (λ l. AreSound (length old.texts.items + 1) (length old.links.items) l old.delimiters.placed.items old.quotes.placed.items old.brackets.standing.items old.doubled.standing.items) (sym puts.slot_is)
        (sound-text (length old.texts.items) (length old.links.items) puts.before old.delimiters.placed.items old.quotes.placed.items old.brackets.standing.items old.doubled.standing.items
        (sound-pending (length old.texts.items) (length old.links.items) old.slots.items puts.before old.delimiters.placed.items old.quotes.placed.items old.brackets.standing.items old.doubled.standing.items start text_end puts.text h) slot alone names no_link))));
    ends = λ leaf e. ended-puts leaf old.slots.items new.slots.items start text_end slot puts e (subst (λ o. EndsIn leaf slot.end o) (sym no_end) tt);
  }

module _ (old new : InlineState) (start at end : ℕ) (puts : PutsAutolink (length old.links.items) start at end old.slots.items new.slots.items) (parts : Link) (links : new.links.items ≡ old.links.items ++ (parts ∷ [])) (others : new ≡ record old { slots = new.slots; links = new.links }) where
  abbrev first : Slot
  first = record { kind = kind.BeginLink element.Autolink (length old.links.items); start = at; end = end }

  abbrev uri : Slot
  uri = record { kind = kind.Text; start = at + 1; end = end - 1 }

  abbrev last : Slot
  last = record { kind = kind.End; start = end - 1; end = end }

  abbrev Holds : ℕ → List Slot → Type 0
  Holds n l = AreSound (length old.texts.items) n l old.delimiters.placed.items old.quotes.placed.items old.brackets.standing.items old.doubled.standing.items

  pub keeps-autolink : KeepsSound old new
  keeps-autolink = record {
    sound = λ h.
        let t : ℕ = length old.texts.items in
        let n : ℕ = length old.links.items in
        let rs = old.delimiters.placed.items in
        let qs = old.quotes.placed.items in
        let bs = old.brackets.standing.items in
        let ds = old.doubled.standing.items in
        let zero-slots : Holds n puts.before = sound-pending t n old.slots.items puts.before rs qs bs ds start at puts.text h in
        let one : Holds (n + 1) (puts.before ++ (first ∷ [])) = sound-link t n puts.before rs qs bs ds zero-slots first (λ i. refl) refl refl in
        let two : Holds (n + 1) ((puts.before ++ (first ∷ [])) ++ (uri ∷ [])) = sound-plain t (n + 1) (puts.before ++ (first ∷ [])) rs qs bs ds one uri (λ i. refl) refl refl in
        let three : Holds (n + 1) (((puts.before ++ (first ∷ [])) ++ (uri ∷ [])) ++ (last ∷ [])) = sound-plain t (n + 1) ((puts.before ++ (first ∷ [])) ++ (uri ∷ [])) rs qs bs ds two last (λ i. refl) refl refl in
        subst IsSound (sym others) (subst (λ m. Holds m new.slots.items) (sym (ap length links ∙ length_push old.links.items parts)) (subst (λ l. Holds (n + 1) l) (sym puts.slots_are) three));
    ends = λ leaf e.
        let a = ended-pending leaf old.slots.items puts.before start at puts.text e in
        let one : List Slot = puts.before ++ (first ∷ []) in
        let two : List Slot = one ++ (uri ∷ []) in
        subst (AreEnded leaf) (sym puts.slots_are)
        (ended-on two (two ++ (last ∷ [])) (no-more-push two last (refl, refl, refl)) leaf
        (ended-on one two (no-more-push one uri (refl, refl, refl)) leaf
        (one-ended (length puts.before) first puts.before one (adds-push puts.before first) leaf a tt)));
  }

-- ## Quotes and runs

pub keeps-quote : (options : Options) (lookup : Lookup) (is_cell : Bool) (text : List ℕ) (here : Cursor) (old new : InlineState) (next : Cursor) → AppendsQuote options lookup is_cell text here old new next → KeepsSound old new
keeps-quote options lookup is_cell text here old new next a =
    let s : Slot = record { kind = kind.Text; start = here.at; end = next.at } in
    let q : PlacedQuote = record { slot = length a.before; quote = a.quote } in
    record {
      sound = λ h. subst IsSound (sym a.others)
          (subst (λ l. AreSound (length old.texts.items) (length old.links.items) new.slots.items old.delimiters.placed.items l old.brackets.standing.items old.doubled.standing.items) (sym a.placed)
          (subst (λ l. AreSound (length old.texts.items) (length old.links.items) l old.delimiters.placed.items (old.quotes.placed.items ++ (q ∷ [])) old.brackets.standing.items old.doubled.standing.items) (sym a.slots)
          (sound-quote (length old.texts.items) (length old.links.items) a.before old.delimiters.placed.items old.quotes.placed.items old.brackets.standing.items old.doubled.standing.items
          (sound-pending (length old.texts.items) (length old.links.items) old.slots.items a.before old.delimiters.placed.items old.quotes.placed.items old.brackets.standing.items old.doubled.standing.items here.pending here.at a.text_is h) s q refl refl)));
      ends = λ leaf e. subst (AreEnded leaf) (sym a.slots) (ended-on a.before (a.before ++ (s ∷ [])) (no-more-push a.before s (refl, refl, refl)) leaf (ended-pending leaf old.slots.items a.before here.pending here.at a.text_is e));
    }

module _ (old new : InlineState) (before : List Slot) (start at : ℕ) (run : PlacedRun) (text : List ℕ) (pending : PushesText start at old.slots.items before) (slots : new.slots.items ≡ before ++ byte_slots at run.run_length)
    (placed : new.delimiters.placed.items ≡ old.delimiters.placed.items ++ (run ∷ [])) (others : new ≡ record old { slots = new.slots; delimiters = new.delimiters }) (some : 0 < run.run_length) (known : IsKnownPlaced run) (there : run.slot ≡ length before) (are : AreSlots text at before) where
  pub keeps-run : KeepsSound old new
  keeps-run = record {
    sound = λ h. subst IsSound (sym others)
        (subst (λ l. AreSound (length old.texts.items) (length old.links.items) new.slots.items l old.quotes.placed.items old.brackets.standing.items old.doubled.standing.items) (sym placed)
        (subst (λ l. AreSound (length old.texts.items) (length old.links.items) l (old.delimiters.placed.items ++ (run ∷ [])) old.quotes.placed.items old.brackets.standing.items old.doubled.standing.items) (sym slots)
        (sound-run (length old.texts.items) (length old.links.items) before old.delimiters.placed.items old.quotes.placed.items old.brackets.standing.items old.doubled.standing.items
        (sound-pending (length old.texts.items) (length old.links.items) old.slots.items before old.delimiters.placed.items old.quotes.placed.items old.brackets.standing.items old.doubled.standing.items start at pending h)
        at run some known there (λ k d lt. (are k d lt).before))));
    ends = λ leaf e. subst (AreEnded leaf) (sym slots) (ended-bytes leaf before at run.run_length (ended-pending leaf old.slots.items before start at pending e));
  }

pub break-alone : (z : Bool) → StandsAlone (if z then kind.HardBreak else kind.SoftBreak)
break-alone true = ((refl, refl, refl), λ i. refl)
break-alone false = ((refl, refl, refl), λ i. refl)

pub formula-alone : (z : Bool) (from : ℕ) → StandsAlone (if z then kind.DisplayMath from else kind.InlineMath from)
formula-alone true from = ((refl, refl, refl), λ i. refl)
formula-alone false from = ((refl, refl, refl), λ i. refl)

-- ## A call that leaves slots and brackets unchanged

module _ (old new : InlineState) (others : new ≡ record old { expansion_left = new.expansion_left; label_close = new.label_close }) where
  pub spans-same : SameSpans old new
  spans-same = record {
    slots = ap (λ (s : InlineState). s.slots) others;
    brackets = ap (λ (s : InlineState). s.brackets) others;
    doubled = ap (λ (s : InlineState). s.doubled) others;
    delimiters = ap (λ (s : InlineState). s.delimiters) others;
  }

  pub spans-sound : IsSound old → IsSound new
  spans-sound h = subst IsSound (sym others) h

  pub spans-taken : (bracket : Bracket) → IsTakenFrom old bracket → IsTakenFrom new bracket
  spans-taken bracket t = subst (λ s. IsTakenFrom s bracket) (sym others) t

  pub spans-ended : (leaf : LeafText) → AreEnded leaf old.slots.items → AreEnded leaf new.slots.items
  spans-ended leaf e = subst (λ (s : InlineState). AreEnded leaf s.slots.items) (sym others) e

  pub spans-stand : (text : List ℕ) (place : ℕ) → Stands text place old → Stands text place new
  spans-stand text place h = subst (Stands text place) (sym others) (record { slots = h.slots; brackets = h.brackets; few = h.few; free = h.free; doubled = h.doubled; doubled_free = h.doubled_free; runs = h.runs; examined = h.examined })

  pub spans-free : (from : ℕ) → HoldNoLink old.slots.items from → HoldNoLink new.slots.items from
  spans-free from h = subst (λ (s : InlineState). HoldNoLink s.slots.items from) (sym others) h

-- a call that changes the label only
pub spans-label : (old new : InlineState) → new ≡ record old { label_close = new.label_close } → new ≡ record old { expansion_left = new.expansion_left; label_close = new.label_close }
spans-label old new label = label ∙ ap (λ n. record old { expansion_left = n; label_close = new.label_close }) (sym (ap (λ (s : InlineState). s.expansion_left) label))

-- two calls: the first changes the label only, and the second the limit
pub spans-both : (old mid new : InlineState) → mid ≡ record old { label_close = mid.label_close } → new ≡ record mid { expansion_left = new.expansion_left } → new ≡ record old { expansion_left = new.expansion_left; label_close = new.label_close }
spans-both old mid new label limit =
    limit ∙ ap (λ (s : InlineState). record s { expansion_left = new.expansion_left }) label ∙ ap (λ l. record old { expansion_left = new.expansion_left; label_close = l }) (sym (ap (λ (s : InlineState). s.label_close) limit))

-- ## Inline HTML

found-kinds : (k : SlotKind) → (k ≡ kind.InlineHtml) ⊎ ((end : ℕ) × (k ≡ kind.SourceHtml end)) → ((i : ℕ) → last_in k i ≡ i) × (text_named k ≡ None) × (link_named k ≡ None)
found-kinds k (inl e) = ((λ i. ap (λ x. last_in x i) e), ap text_named e, ap link_named e)
found-kinds k (inr (end, e)) = ((λ i. ap (λ x. last_in x i) e), ap text_named e, ap link_named e)

pub found-alone : (leaf : LeafText) (at : ℕ) (found : FoundHtml) → IsFound leaf at found → ((i : ℕ) → last_in found.kind i ≡ i) × (text_named found.kind ≡ None) × (link_named found.kind ≡ None)
found-alone leaf at found (inl t) = found-kinds found.kind (inl t.kind_is)
found-alone leaf at found (inr s) = found-kinds found.kind (inr (place_of leaf at + s.size, s.kind_is))

pub some-taken : (taken : Option Bracket) (old new : InlineState) → ((bracket : Bracket) → IsTakenFrom old bracket → IsTakenFrom new bracket) → IfSome taken (IsTakenFrom old) → IfSome taken (IsTakenFrom new)
some-taken None old new f h = tt
some-taken (Some bracket) old new f h = f bracket h
