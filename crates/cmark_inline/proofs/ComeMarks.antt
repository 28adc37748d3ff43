-- With the slots of a delimiter run, of a quote or of an opening bracket, the grammar's pass has read it.
use Rattle.std.specs.Prelude.{Option}
use Rattle.std.proofs.Common.{◌≡◌, ℕ, zero, suc, ◌+◌, ◌-◌, ◌<◌, ◌≤◌, Bool, true, List, [], ◌∷◌, ◌++◌, length, get_or, refl, sym, ap, ◌∙◌, subst, arith, false}
use Rattle.std.proofs.lemmas.List.{get_or_push}
use Rattle.cmark_emphasis.specs.Shown.{shown_quote, shown_whole}
use Rattle.cmark_grammar.specs.BracketStates.{moved}
use Rattle.cmark_grammar.specs.Event as event
use Rattle.cmark_grammar.specs.InlineReading.{event_of}
use Rattle.cmark_grammar.specs.InlineTokens.{token}
use Rattle.cmark_grammar.specs.Items as items
use Rattle.cmark_grammar.specs.Items.{ItemKind, Own, Quoted, Delimiters, Item, Stands}
use Rattle.cmark_grammar.specs.LeafReading.{Between}
use Rattle.cmark_grammar.specs.LeafText.{Leaf}
use Rattle.cmark_grammar.specs.Lines.{is_content}
use Rattle.cmark_grammar.specs.Parts.{Nil, Single}
use Rattle.cmark_grammar.specs.Readers.{Reader}
use Rattle.cmark_grammar.specs.Siblings.{item}
use Rattle.cmark_grammar.specs.Tokens.{slice}
use Rattle.cmark_leaf_text.specs.Reads.{is_cell_of, text_of}
use Rattle.cmark_leaf_text.specs.declared.leaf_text.LeafText.{LeafText}
use Rattle.cmark_values.specs.declared.text.CowStr.{CowStr}
use Rattle.cmark_inline_model.specs.BracketPass.{pass}
use Rattle.cmark_inline_model.specs.LikeSlots.{AreLike, IsLike, is_html}
use Rattle.cmark_inline_model.specs.PartLists.{join}
use Rattle.cmark_inline_model.specs.SlotRows.{ItemSlot, run_slots}
use Rattle.cmark_inline_model.proofs.TogetherTokens.{Together, together-slice}
use Rattle.cmark_inline.specs.CursorProgress.{HasReached}
use Rattle.cmark_inline.specs.Reached.{ReadsPlaces}
use Rattle.cmark_slots.specs.SlotViews.{shown_slot, shown_slots}
use Rattle.cmark_inline.specs.Tokens.{AppendsQuote, AppendsRun}
use Rattle.cmark_slots.specs.Slots.{byte_slots}
use Rattle.cmark_inline.specs.declared.callback.BrokenLink.{BrokenLink}
use Rattle.cmark_references.specs.declared.link.Link.{Link}
use Rattle.cmark_slots.specs.declared.slot.Slot.{Slot}
use Rattle.cmark_inline.specs.declared.state.InlineState.{InlineState}
use Rattle.cmark_inline.specs.declared.step.Cursor.{Cursor}
use Rattle.cmark_inline.specs.LeastSteps.{Tally}
use Rattle.cmark_inline.proofs.ComeItems.{flushed, has-room, other-token, with_slots}
use Rattle.cmark_inline.proofs.LeastCounted.{counted-item}
use Rattle.cmark_inline.proofs.MarkupTokens.{no-markup-by}
use Rattle.cmark_inline.proofs.PendingReads.{item-within, stops-there}
use Rattle.cmark_inline.proofs.PendingTexts.{text_slot}
use Rattle.cmark_inline.proofs.PlainChains.{IsHeld}
use Rattle.cmark_inline.proofs.ReachedItems.{shows-on}
use Rattle.cmark_inline.proofs.ReachedSteps.{quote-read, run-read}

-- the last element of a list
last-same : {X : Type 0} (xs : List X) (a b : X) → xs ++ (a ∷ []) ≡ xs ++ (b ∷ []) → a ≡ b
last-same xs a b e = sym (get_or_push xs a a (length xs) refl) ∙ ap (λ l. get_or l (length xs) a) e ∙ get_or_push xs b a (length xs) refl

-- an item whose event is a text is no HTML
no-html : (source : List ℕ) (x : Item) (bytes : List ℕ) (k : ItemKind) → event_of source x k ≡ event.Text bytes → false ≡ is_html k
no-html source x bytes items.Html h = absurd (let z : ⊥ = cc in z)
no-html source x bytes _ h = refl

module _ (leaf : LeafText) (reader : Reader) (read : Leaf) (place : ℕ → ℕ) (r : ReadsPlaces leaf reader read place) where
  abbrev text : List ℕ
  text = text_of leaf

  abbrev cell : Bool
  cell = is_cell_of leaf

  -- ## Bytes that end no line are adjacent
  pub steps : (n s : ℕ) → s + n ≤ length text → ((k : ℕ) → s ≤ k → k < s + n → is_content (get_or text k 0) ≡ true) → place (s + n) ≡ place s + n
  steps zero s within all = ap place (let q : s + 0 ≡ s = omega arith in q) ∙ (let q : place s ≡ place s + 0 = omega arith in q)
  steps (suc n) s within all =
      let i = steps n s (omega (arith, within)) (λ k low high. all k low (let q : k < s + suc n = omega (arith, high) in q)) in
      let j = r.places.places.next (s + n) (omega (arith, within)) (all (s + n) (omega arith) (omega arith)) in
      ap place (let q : s + suc n ≡ suc (s + n) = omega arith in q) ∙ j ∙ (let q : suc (place (s + n)) ≡ place s + suc n = omega (arith, i) in q)

  pub side-by-side : (s e : ℕ) → s < e → e ≤ length text → ((k : ℕ) → s ≤ k → k < e → is_content (get_or text k 0) ≡ true) → Together reader read text place r.places s e
  side-by-side s e some within all =
      let n : ℕ = e - s in
      let a = steps n s (omega (arith, some, within)) (λ k low high. all k low (omega (arith, high, some))) in
      let b = steps (n - 1) s (omega (arith, some, within)) (λ k low high. all k low (omega (arith, high, some))) in
      let p = ap place (let q : s + n ≡ e = omega (arith, some) in q) in
      let q = ap place (let q : s + (n - 1) ≡ e - 1 = omega (arith, some) in q) in
      record { some = some; within = within; sizes = omega (arith, a, b, p, q, some); last = omega (arith, a, b, p, q, some); content = λ i lt. all (s + i) (omega arith) lt }

  -- a text of these bytes
  pub text-like : (s e : ℕ) → Together reader read text place r.places s e → (k : ItemKind) → ((x : Item) → event_of reader.source x k ≡ event.Text (slice reader.source x.start x.end)) → (texts : List CowStr) (links : List Link)
      → IsLike reader.source (shown_slot leaf texts links (text_slot s e)) (ItemSlot (item k (place s) (suc (place (e - 1)))))
  text-like s e t k is texts links =
      let some = t.some in
      let within = t.within in
      record {
        start = r.bytes s (omega (arith, some, within));
        end = ap (λ n. n + 1) (r.bytes (e - 1) (omega (arith, some, within))) ∙ (let q : place (e - 1) + 1 ≡ suc (place (e - 1)) = omega arith in q);
        event = ap event.Text (sym (together-slice reader read text place r.places s e t)) ∙ sym (is (item k (place s) (suc (place (e - 1)))));
        lines = λ q. no-html reader.source (item k (place s) (suc (place (e - 1)))) (slice reader.source (place s) (suc (place (e - 1)))) k (is (item k (place s) (suc (place (e - 1)))));
      }

  pub bytes-like : (size at : ℕ) (texts : List CowStr) (links : List Link) → at + size ≤ length text → ((k : ℕ) → at ≤ k → k < at + size → is_content (get_or text k 0) ≡ true)
      → AreLike reader.source (shown_slots leaf texts links (byte_slots at size)) (run_slots (place at) size [])
  bytes-like zero at texts links within all = refl
  bytes-like (suc size) at texts links within all =
      let one = side-by-side at (at + 1) (omega arith) (omega (arith, within)) (λ k low high. all k low (omega (arith, high))) in
      let like = text-like at (at + 1) one Own (λ x. refl) texts links in
      let next : place (at + 1) ≡ suc (place at) = one.last ∙ ap (λ n. suc (place n)) (let q : at + 1 - 1 ≡ at = omega arith in q) in (
        subst (λ n. IsLike reader.source (shown_slot leaf texts links (text_slot at (at + 1))) (ItemSlot (item Own (place at) (suc (place n))))) (let q : at + 1 - 1 ≡ at = omega arith in q) like,
        subst (λ n. AreLike reader.source (shown_slots leaf texts links (byte_slots (at + 1) size)) (run_slots n size [])) next
            (bytes-like size (at + 1) texts links (let q : at + 1 + size ≤ length text = omega (arith, within) in q) (λ k low high. all k (let q : at ≤ k = omega (arith, low) in q) (let q : k < at + suc size = omega (arith, high) in q))),
      )

  module _ {F : Type 0} (R : F → BrokenLink → Option (CowStr × CowStr) → F → Type 0) (before : Between) (tally : Tally) (initial now : F) (here : Cursor) (m : ℕ) (old new : InlineState) (next : Cursor) (h : HasReached R leaf reader read place before tally initial m old now)
      (held : IsHeld reader.options reader.lookup cell text m here.pending here.at) where
    pub run-reached : AppendsRun reader.options reader.lookup cell text here old new next → HasReached R leaf reader read place before tally initial next.at new now
    run-reached a =
        let x : Item = record { kind = Delimiters (shown_whole a.run); start = here.at; end = next.at } in
        let w = item-within reader.options reader.lookup cell text here.at x next.at a.token in
        let further = w.further in
        let within = w.within in
        let size = a.size in
        let room = has-room new a.before (byte_slots here.at a.run.run_length) a.slots in
        let mid : InlineState = with_slots old new a.before room in
        let f = flushed leaf reader read place r R before tally initial now m here.pending here.at old new a.before room h held (omega (arith, further, within)) (stops-there reader.options reader.lookup cell text here.at (Stands x next.at) a.token refl) a.text_is in
        let others = a.others in
        let t = other-token leaf reader read place r here.at x next.at (omega (arith, further, within)) a.token refl (no-markup-by reader.options reader.lookup cell text here.at (Stands x next.at) a.token refl) in
        record {
          p = pass (moved (place next.at) f.p.state) (join f.p.here (Single (item (Delimiters (shown_whole a.run)) (place here.at) (suc (place (next.at - 1)))) Nil));
          bs = f.bs;
          has_read =
              run-read leaf reader read place before f.p f.bs mid new f.has_read
              (ap (λ y. shown_slots leaf y new.links.items a.before) (ap (λ (s : InlineState). s.texts.items) others) ∙ ap (λ y. shown_slots leaf old.texts.items y a.before) (ap (λ (s : InlineState). s.links.items) others))
              a.run (place here.at) (suc (place (next.at - 1))) (place next.at) (byte_slots here.at a.run.run_length) (ap (token reader read) f.at_is ∙ t)
              (bytes-like a.run.run_length here.at new.texts.items new.links.items (omega (arith, size, within)) (λ k low high. a.bytes k low (omega (arith, size, high)))) a.there a.slots a.placed (ap (λ (s : InlineState). s.quotes.placed.items) others);
          at_is = refl;
          shows = shows-on reader.options.wikilinks text place here.at next.at f.p.state (moved (place next.at) f.p.state) f.bs mid new (omega (arith, further))
              (record { examined = a.examined; brackets = ap (λ (s : InlineState). s.brackets) others; doubled = ap (λ (s : InlineState). s.doubled) others; expansion_left = ap (λ (s : InlineState). s.expansion_left) others; label = ap (λ (s : InlineState). s.label_close) others })
              refl refl refl f.shows;
          answered = f.answered;
          counted = counted-item reader f.p.here tally tally.sought mid.delimiters.examined new.delimiters.examined (item (Delimiters (shown_whole a.run)) (place here.at) (suc (place (next.at - 1)))) a.examined (record { html = omega arith; closers = omega arith }) f.counted;
        }

    pub quote-reached : AppendsQuote reader.options reader.lookup cell text here old new next → is_content (get_or text here.at 0) ≡ true → next.at ≡ here.at + 1 → HasReached R leaf reader read place before tally initial next.at new now
    quote-reached a content one =
        let x : Item = record { kind = Quoted (shown_quote a.quote); start = here.at; end = next.at } in
        let w = item-within reader.options reader.lookup cell text here.at x next.at a.token in
        let further = w.further in
        let within = w.within in
        let slot : Slot = text_slot here.at next.at in
        let room = has-room new a.before (slot ∷ []) a.slots in
        let mid : InlineState = with_slots old new a.before room in
        let f = flushed leaf reader read place r R before tally initial now m here.pending here.at old new a.before room h held (omega (arith, further, within)) (stops-there reader.options reader.lookup cell text here.at (Stands x next.at) a.token refl) a.text_is in
        let others = a.others in
        let t = other-token leaf reader read place r here.at x next.at (omega (arith, further, within)) a.token refl (no-markup-by reader.options reader.lookup cell text here.at (Stands x next.at) a.token refl) in
        let side = side-by-side here.at next.at further within (λ k low high. ap (λ n. is_content (get_or text n 0)) (let q : k ≡ here.at = omega (arith, low, high, one) in q) ∙ content) in
        record {
          p = pass (moved (place next.at) f.p.state) (join f.p.here (Single (item (Quoted (shown_quote a.quote)) (place here.at) (suc (place (next.at - 1)))) Nil));
          bs = f.bs;
          has_read =
              quote-read leaf reader read place before f.p f.bs mid new f.has_read
              (ap (λ y. shown_slots leaf y new.links.items a.before) (ap (λ (s : InlineState). s.texts.items) others) ∙ ap (λ y. shown_slots leaf old.texts.items y a.before) (ap (λ (s : InlineState). s.links.items) others))
              (record { slot = length a.before; quote = a.quote }) (place here.at) (suc (place (next.at - 1))) (place next.at) slot (ap (token reader read) f.at_is ∙ t)
              (text-like here.at next.at side (Quoted (shown_quote a.quote)) (λ y. refl) new.texts.items new.links.items) refl a.slots (ap (λ (s : InlineState). s.delimiters.placed.items) others) a.placed;
          at_is = refl;
          shows = shows-on reader.options.wikilinks text place here.at next.at f.p.state (moved (place next.at) f.p.state) f.bs mid new (omega (arith, further))
              (record { examined = ap (λ (s : InlineState). s.delimiters.examined) others; brackets = ap (λ (s : InlineState). s.brackets) others; doubled = ap (λ (s : InlineState). s.doubled) others; expansion_left = ap (λ (s : InlineState). s.expansion_left) others; label = ap (λ (s : InlineState). s.label_close) others })
              refl refl refl f.shows;
          answered = f.answered;
          counted = counted-item reader f.p.here tally tally.sought mid.delimiters.examined new.delimiters.examined (item (Quoted (shown_quote a.quote)) (place here.at) (suc (place (next.at - 1)))) (ap (λ (s : InlineState). s.delimiters.examined) others) (record { html = omega arith; closers = omega arith }) f.counted;
        }
