-- With the slot of markup that the source closes, or of a `<` that opens unclosed markup, the grammar's pass has read the token.
use Rattle.std.specs.Prelude.{Option, IfSome, ◌&&◌, is_none, if◌then◌else◌}
use Rattle.std.proofs.Common.{◌≡◌, ◌⊎◌, inl, inr, ℕ, suc, ◌+◌, ◌-◌, ◌<◌, ◌≤◌, ◌==◌, Bool, true, false, List, [], ◌∷◌, length, drop, get_or, Some, None, refl, sym, ap, ◌∙◌, subst, arith, eqb-true, length-drop}
use Rattle.std.proofs.Math.Seq.{drop-cons}
use Rattle.std.proofs.lemmas.Bool.{or_cases}
use Rattle.cmark_grammar.specs.Autolinks.{autolink_in}
use Rattle.cmark_grammar.specs.InlineHtml.{after_markup}
use Rattle.cmark_grammar.specs.InlineReading.{event_of}
use Rattle.cmark_grammar.specs.InlineTokens as grammar
use Rattle.cmark_grammar.specs.InlineTokens.{begins, from, longest, markup_or, read_on, tag_or_text, token}
use Rattle.cmark_grammar.specs.Items.{Html, Own, Item, Stands}
use Rattle.cmark_grammar.specs.LeafReading.{Between}
use Rattle.cmark_grammar.specs.LeafText.{Leaf, end_of}
use Rattle.cmark_grammar.specs.Lines.{is_content}
use Rattle.cmark_grammar.specs.Readers.{Reader}
use Rattle.cmark_grammar.specs.Siblings.{item}
use Rattle.cmark_grammar.specs.Tags.{after_tag, no_prefix}
use Rattle.cmark_grammar.specs.Tokens.{slice}
use Rattle.cmark_leaf_text.specs.Reads.{is_cell_of, place_of, source_of, text_of}
use Rattle.cmark_leaf_text.specs.declared.leaf_text.LeafText.{LeafText}
use Rattle.cmark_values.specs.declared.text.CowStr.{CowStr}
use Rattle.cmark_inline_model.specs.LikeSlots.{IsLike}
use Rattle.cmark_inline_model.specs.PlacedTokens.{IsParted, may_open_markup}
use Rattle.cmark_inline_model.specs.RowPasses.{has_own_slot}
use Rattle.cmark_inline_model.specs.SlotRows.{ItemSlot}
use Rattle.cmark_inline_model.proofs.PlacedTokens as places
use Rattle.cmark_inline_model.proofs.PlacedTokens.{from-place}
use Rattle.cmark_inline.specs.CursorProgress.{HasReached}
use Rattle.cmark_inline.specs.LeastSteps.{PassesAt, PassesFound, Tally, begins_markup, visited_in}
use Rattle.cmark_inline.specs.MarkupInSource.{AppendsMarkup, AppendsUnclosed, source_from}
use Rattle.cmark_inline.specs.Reached.{ReadsPlaces}
use Rattle.cmark_slots.specs.SlotViews.{shown_slot, shown_slots}
use Rattle.cmark_inline.specs.Tokens as tokens
use Rattle.cmark_inline.specs.Tokens.{Puts, opens_markup}
use Rattle.cmark_inline.specs.declared.callback.BrokenLink.{BrokenLink}
use Rattle.cmark_slots.specs.declared.slot.Slot.{Slot}
use Rattle.cmark_slots.specs.declared.slot.SlotKind.{SlotKind}
use Rattle.cmark_slots.specs.declared.slot.SlotKind.TheVariants as kind
use Rattle.cmark_inline.specs.declared.state.InlineState.{InlineState}
use Rattle.cmark_inline.specs.declared.step.Cursor.{Cursor}
use Rattle.cmark_inline.specs.declared.step.Sought.{Sought}
use Rattle.cmark_inline.proofs.ComeItems.{flushed, has-room, with_slots}
use Rattle.cmark_inline.proofs.ComeMarks.{side-by-side, text-like}
use Rattle.cmark_inline.proofs.LeastCounted.{TakesFor}
use Rattle.cmark_inline.proofs.MarkupTokens.{less-is, no-slash-there}
use Rattle.cmark_inline.proofs.PendingReads.{stops-markup}
use Rattle.cmark_inline.proofs.PendingTexts.{text_slot}
use Rattle.cmark_inline.proofs.PlainChains.{IsHeld}
use Rattle.cmark_inline.proofs.ReachedItems.{item-reached}

-- no tag begins with `<!` or `<?`
no-tag : (bs : List ℕ) → opens_markup bs ≡ true → after_tag no_prefix (60 ∷ bs) ≡ None
no-tag [] e = refl
no-tag (c ∷ cs) e = go (or_cases (c == 33) (c == 63) e)
  where
    go : ((c == 33) ≡ true) ⊎ ((c == 63) ≡ true) → after_tag no_prefix (60 ∷ (c ∷ cs)) ≡ None
    go (inl h) = ap (λ d. after_tag no_prefix (60 ∷ (d ∷ cs))) (eqb-true c 33 h)
    go (inr h) = ap (λ d. after_tag no_prefix (60 ∷ (d ∷ cs))) (eqb-true c 63 h)

module _ (leaf : LeafText) (reader : Reader) (read : Leaf) (place : ℕ → ℕ) (r : ReadsPlaces leaf reader read place) (source : reader.source ≡ source_of leaf) where
  abbrev text : List ℕ
  text = text_of leaf

  abbrev cell : Bool
  cell = is_cell_of leaf

  module _ (at : ℕ) (lt : at < length text) (byte : get_or text at 0 ≡ 60) (link : autolink_in reader.options.email_autolinks (drop (at + 1) text) ≡ None) (opens : opens_markup (drop (at + 1) text) ≡ true) where
    front : drop at text ≡ 60 ∷ drop (at + 1) text
    front = drop-cons text at 0 lt ∙ ap (λ b. b ∷ drop (suc at) text) byte ∙ ap (λ n. 60 ∷ drop n text) (let q : suc at ≡ at + 1 = omega arith in q)

    pub opens-there : may_open_markup reader.options.email_autolinks (drop at text) ≡ true
    opens-there = ap (may_open_markup reader.options.email_autolinks) front ∙ ap (λ m. is_none m && opens_markup (drop (at + 1) text)) link ∙ opens

    -- the source from there to the end of the leaf
    source-there : grammar.source_from reader read (place at) ≡ source_from leaf at
    source-there =
        ap (λ (s : List ℕ). slice s (place at) (end_of read.stretches)) source
        ∙ ap (λ n. slice (source_of leaf) n (end_of read.stretches)) (sym (r.bytes at lt))
        ∙ ap (slice (source_of leaf) (place_of leaf at)) ends
      where
        none-left : drop (length text) text ≡ []
        none-left = go (drop (length text) text) (length-drop (length text) text)
          where
            go : (l : List ℕ) → length l ≡ length text - length text → l ≡ []
            go [] e = refl
            go (x ∷ l) e = absurd (omega (arith, e))

        ends : end_of read.stretches ≡ place_of leaf (length text - 1) + 1
        ends =
            ap (λ (l : List ℕ). grammar.place_of reader read l) (sym none-left) ∙ r.places.places.ends (length text) (omega arith) ∙ r.last (omega (arith, lt))
            ∙ (let q = r.bytes (length text - 1) (omega (arith, lt)) in let z : suc (place (length text - 1)) ≡ place_of leaf (length text - 1) + 1 = omega (arith, q) in z)

    there : grammar.begins_at reader read (place at) ≡ markup_or reader read (place at) (after_markup (source_from leaf at)) (tag_or_text reader read (place at) (after_tag no_prefix (from reader read (place at))))
    there =
        ap (begins reader read (place at)) (from-place reader read text place r.places at (omega (arith, lt)) ∙ front) ∙ less-is reader read (place at) (drop (at + 1) text) link (no-slash-there (drop (at + 1) text) opens)
        ∙ ap (λ s. markup_or reader read (place at) (after_markup s) (tag_or_text reader read (place at) (after_tag no_prefix (from reader read (place at))))) source-there

    pub closed-token : (size end : ℕ) → size ≤ length (source_from leaf at) → after_markup (source_from leaf at) ≡ Some (drop size (source_from leaf at)) → IsParted (length text) place (place at + size) end
        → token reader read (place at) ≡ Stands (record { kind = Html; start = place at; end = place at + size }) (place (tokens.read_on text end))
    unfolding token
    closed-token size end fits closes parted =
        let d = length-drop size (source_from leaf at) in
        ap (longest reader read) there ∙ ap (λ m. longest reader read (markup_or reader read (place at) m (tag_or_text reader read (place at) (after_tag no_prefix (from reader read (place at)))))) closes
        ∙ ap (λ n. Stands (record { kind = Html; start = place at; end = place at + n }) (read_on reader read (place at + n)))
        (ap (λ s. length s - length (drop size (source_from leaf at))) source-there ∙ (let q : length (source_from leaf at) - length (drop size (source_from leaf at)) ≡ size = omega (arith, d, fits) in q))
        ∙ ap (Stands (record { kind = Html; start = place at; end = place at + size })) (places.read-on reader read text place r.places (place at + size) end parted)

    pub unclosed-token : after_markup (source_from leaf at) ≡ None → token reader read (place at) ≡ Stands (record { kind = Own; start = place at; end = suc (place at) }) (place (at + 1))
    unfolding token
    unclosed-token closes =
        ap (longest reader read) there ∙ ap (λ m. longest reader read (markup_or reader read (place at) m (tag_or_text reader read (place at) (after_tag no_prefix (from reader read (place at)))))) closes
        ∙ ap (λ l. longest reader read (tag_or_text reader read (place at) (after_tag no_prefix l))) (from-place reader read text place r.places at (omega (arith, lt)) ∙ front)
        ∙ ap (λ m. longest reader read (tag_or_text reader read (place at) m)) (no-tag (drop (at + 1) text) opens)
        ∙ ap (Stands (record { kind = Own; start = place at; end = suc (place at) }))
        (sym (ap place (let q : at + 1 ≡ suc at = omega arith in q) ∙ r.places.places.next at lt (ap is_content byte)))

  module _ {F : Type 0} (R : F → BrokenLink → Option (CowStr × CowStr) → F → Type 0) (before : Between) (tally : Tally) (initial now : F) (here : Cursor) (m : ℕ) (old new : InlineState) (next : Cursor) (h : HasReached R leaf reader read place before tally initial m old now)
      (held : IsHeld reader.options reader.lookup cell text m here.pending here.at) (further : here.at < next.at) (within : next.at ≤ length text) where
    slot-reached : (slot : Slot) (x : Item) (found : Sought) → may_open_markup reader.options.email_autolinks (drop here.at text) ≡ true → Puts here.pending here.at slot old.slots.items new.slots.items → new ≡ record old { slots = new.slots }
        → token reader read (place here.at) ≡ Stands x (place next.at) → (x.kind ≡ Html) ⊎ (x.kind ≡ Own) → IsLike reader.source (shown_slot leaf new.texts.items new.links.items slot) (ItemSlot x) → TakesFor reader.source x tally.sought found → HasReached R leaf reader read place before (record tally { sought = found }) initial next.at new now
    slot-reached slot x found opens puts others t own like takes =
        let room = has-room new puts.before (slot ∷ []) puts.slot_is in
        let mid : InlineState = with_slots old new puts.before room in
        let f = flushed leaf reader read place r R before tally initial now m here.pending here.at old new puts.before room h held (omega (arith, further, within)) (stops-markup reader.options reader.lookup cell text here.at opens) puts.text in
        item-reached leaf reader read place before R (record tally { sought = found }) initial now tally.sought here.at next.at mid new f (omega (arith, further))
        (record { examined = ap (λ (s : InlineState). s.delimiters.examined) others; brackets = ap (λ (s : InlineState). s.brackets) others; doubled = ap (λ (s : InlineState). s.doubled) others; expansion_left = ap (λ (s : InlineState). s.expansion_left) others; label = ap (λ (s : InlineState). s.label_close) others })
        (ap (λ y. shown_slots leaf y new.links.items puts.before) (ap (λ (s : InlineState). s.texts.items) others) ∙ ap (λ y. shown_slots leaf old.texts.items y puts.before) (ap (λ (s : InlineState). s.links.items) others))
        x.kind x.start x.end slot t (either x own) like puts.slot_is (ap (λ (s : InlineState). s.delimiters.placed.items) others) (ap (λ (s : InlineState). s.quotes.placed.items) others) takes
      where
        either : (x : Item) → (x.kind ≡ Html) ⊎ (x.kind ≡ Own) → has_own_slot x.kind ≡ true
        either x (inl e) = ap has_own_slot e
        either x (inr e) = ap has_own_slot e

    pub unclosed-reached : AppendsUnclosed reader.options leaf here old new next → HasReached R leaf reader read place before tally initial next.at new now
    unclosed-reached a =
        let lt : here.at < length text = omega (arith, further, within) in
        let at = a.at in
        let x : Item = record { kind = Own; start = place here.at; end = suc (place here.at) } in
        let side = side-by-side leaf reader read place r here.at next.at further within (λ k low high. ap (λ n. is_content (get_or text n 0)) (let q : k ≡ here.at = omega (arith, low, high, at) in q) ∙ ap is_content a.byte) in
        let like = text-like leaf reader read place r here.at next.at side Own (λ y. refl) new.texts.items new.links.items in
        slot-reached (text_slot here.at next.at) x tally.sought (opens-there here.at lt a.byte a.autolink a.opens) a.slots a.others
        (unclosed-token here.at lt a.byte a.autolink a.opens a.closes ∙ ap (λ n. Stands x (place n)) (sym at)) (inr refl)
        (subst (λ n. IsLike reader.source (shown_slot leaf new.texts.items new.links.items (text_slot here.at next.at)) (ItemSlot (record { kind = Own; start = place here.at; end = suc (place n) }))) (let q : next.at - 1 ≡ here.at = omega (arith, at) in q) like)
        (record { html = omega arith; closers = omega arith })

    -- the bytes of the markup were passed, except the two with which it opens
    markup-takes : (found : Sought) (start size : ℕ) → size ≤ length (source_from leaf here.at) → after_markup (source_from leaf here.at) ≡ Some (drop size (source_from leaf here.at)) → tally.sought.unclosed.passed ≤ found.unclosed.passed → visited_in tally.sought ≤ visited_in found
        → PassesFound (source_from leaf here.at) tally.sought.unclosed found.unclosed → TakesFor reader.source (record { kind = Html; start = start; end = start + size }) tally.sought found
    markup-takes found start size fits closes grows visited passes =
        let all : List ℕ = source_from leaf here.at in
        let p : tally.sought.unclosed.passed + (length all - length (drop size all)) ≤ found.unclosed.passed + 2 =
        subst (λ (m : Option (List ℕ)). IfSome m (λ rest. tally.sought.unclosed.passed + (length all - length rest) ≤ found.unclosed.passed + 2)) closes passes in
        let d = length-drop size all in
        let few : tally.sought.unclosed.passed + size ≤ found.unclosed.passed + 2 = omega (arith, p, d, fits) in
        record { html = go few (begins_markup (drop start reader.source)); closers = omega (arith, visited) }
      where
        go : tally.sought.unclosed.passed + size ≤ found.unclosed.passed + 2 → (z : Bool) → (if z then start + size - start - 2 else 0) + tally.sought.unclosed.passed ≤ found.unclosed.passed
        go few true = omega (arith, few, grows)
        go few false = omega (arith, grows)

    pub markup-reached : (found : Sought) → visited_in tally.sought ≤ visited_in found → PassesAt reader.options.email_autolinks leaf here.at tally.sought.unclosed found.unclosed → AppendsMarkup reader.options leaf here old new next → HasReached R leaf reader read place before (record tally { sought = found }) initial next.at new now
    markup-reached found visited passes a =
        let lt : here.at < length text = omega (arith, further, within) in
        let i = a.is in
        let end : ℕ = place here.at + i.size in
        let x : Item = record { kind = Html; start = place here.at; end = end } in
        let slot : Slot = record { kind = a.found.kind; start = here.at; end = a.found.end } in
        let byte = r.bytes here.at lt in
        let parted : IsParted (length text) place end a.found.end = record {
          within = i.goes_on.within;
          earlier = λ k low. (let p = i.goes_on.before k low in let w = i.goes_on.within in let q = r.bytes k (omega (arith, low, w)) in omega (arith, p, q, byte));
          later = λ k low high. (let p = i.goes_on.following k low high in let q = r.bytes k high in omega (arith, p, q, byte));
        } in
        let like : IsLike reader.source (shown_slot leaf new.texts.items new.links.items (record { kind = kind.SourceHtml (place_of leaf here.at + i.size); start = here.at; end = a.found.end })) (ItemSlot x) =
        record { start = byte; end = ap (λ n. n + i.size) byte; event = ap (λ n. event_of reader.source (item Html n (place_of leaf here.at + i.size)) Html) byte ∙ ap (λ n. event_of reader.source (item Html (place here.at) (n + i.size)) Html) byte; lines = λ q. refl } in
        slot-reached slot x found (opens-there here.at lt a.byte a.autolink i.opens) a.slots a.others
        (closed-token here.at lt a.byte a.autolink i.opens i.size a.found.end i.within i.closes parted ∙ ap (λ n. Stands x (place n)) (sym a.at)) (inl refl)
        (subst (λ (k : SlotKind). IsLike reader.source (shown_slot leaf new.texts.items new.links.items (record { kind = k; start = here.at; end = a.found.end })) (ItemSlot x)) (sym i.kind_is) like)
        (markup-takes found (place here.at) i.size i.within i.closes passes.grows visited (passes.markup a.byte a.autolink i.opens))
