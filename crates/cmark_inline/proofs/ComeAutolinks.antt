-- With the slots of an autolink, the grammar's pass has read the autolink.
use Rattle.std.specs.Prelude.{Option, map}
use Rattle.std.proofs.Common.{◌≡◌, ℕ, zero, suc, ◌+◌, ◌-◌, ◌<◌, ◌≤◌, Bool, false, List, [], ◌∷◌, ◌++◌, length, drop, refl, sym, ap, ◌∙◌, subst, arith, append_assoc, get_or, true}
use Rattle.std.proofs.lemmas.List.{append-nil, map-append}
use Rattle.cmark_grammar.specs.BracketStates.{moved}
use Rattle.cmark_grammar.specs.InlineTokens.{token}
use Rattle.cmark_grammar.specs.Items.{Autolink, Own, Item, Stands}
use Rattle.cmark_grammar.specs.LeafReading.{Between}
use Rattle.cmark_grammar.specs.LeafText.{Leaf}
use Rattle.cmark_grammar.specs.Lines.{is_content}
use Rattle.cmark_grammar.specs.Parts.{Nil, Single}
use Rattle.cmark_grammar.specs.Readers.{Reader}
use Rattle.cmark_grammar.specs.Siblings.{item, address_link, address_type}
use Rattle.cmark_grammar.specs.Tag as tag
use Rattle.cmark_grammar.specs.Tokens.{slice}
use Rattle.cmark_leaf_text.specs.Reads.{is_cell_of, place_of, text_of}
use Rattle.cmark_leaf_text.specs.declared.leaf_text.LeafText.{LeafText}
use Rattle.cmark_values.specs.Shown.{text_bytes}
use Rattle.cmark_values.specs.declared.text.CowStr.{CowStr}
use Rattle.cmark_inline_model.specs.BracketPass.{pass}
use Rattle.cmark_inline_model.specs.LikeSlots.{IsLike}
use Rattle.cmark_inline_model.specs.PartLists.{join}
use Rattle.cmark_inline_model.specs.PlacedTokens.{may_open_markup}
use Rattle.cmark_inline_model.specs.RowParts.{BracketPlace}
use Rattle.cmark_inline_model.specs.RowPasses.{IsReached}
use Rattle.cmark_inline_model.specs.SlotRows as row
use Rattle.cmark_inline_model.specs.SlotRows.{ItemSlot}
use Rattle.cmark_inline_model.proofs.RowPasses.{reached-autolink}
use Rattle.cmark_inline_model.proofs.TogetherTokens.{Joined, Together, begins-joined}
use Rattle.cmark_inline.specs.CursorProgress.{HasReached}
use Rattle.cmark_slots.specs.MarkedSlots.{places_of}
use Rattle.cmark_inline.specs.Reached.{ReadsPlaces, bracket_place, quotes_of, runs_of}
use Rattle.cmark_inline.specs.Sound.{IsSound}
use Rattle.cmark_slots.specs.SlotViews.{linked_at, linked_or_none, shown_slot, shown_slots}
use Rattle.cmark_inline.specs.Tokens.{AppendsAutolink, begins_at}
use Rattle.cmark_inline.specs.declared.callback.BrokenLink.{BrokenLink}
use Rattle.cmark_references.specs.declared.link.Link.{Link}
use Rattle.cmark_slots.specs.declared.quote.PlacedQuote.{PlacedQuote}
use Rattle.cmark_slots.specs.declared.slot.LinkElement.TheVariants as element
use Rattle.cmark_slots.specs.declared.slot.Slot.{Slot}
use Rattle.cmark_slots.specs.declared.slot.SlotKind.TheVariants as kind
use Rattle.cmark_inline.specs.declared.state.InlineState.{InlineState}
use Rattle.cmark_inline.specs.declared.step.Cursor.{Cursor}
use Rattle.cmark_inline.specs.LeastSteps.{Tally}
use Rattle.cmark_inline.proofs.ComeItems.{flushed, has-room, other-token, with_slots}
use Rattle.cmark_inline.proofs.ComeMarks.{text-like}
use Rattle.cmark_inline.proofs.Keeping.{keeps-pending}
use Rattle.cmark_slots.proofs.Longer.{get-last, shown-longer}
use Rattle.cmark_inline.proofs.LeastCounted.{counted-item}
use Rattle.cmark_inline.proofs.MarkupTokens.{no-markup-by}
use Rattle.cmark_inline.proofs.PendingReads.{item-within, stops-there}
use Rattle.cmark_inline.proofs.PlainChains.{IsHeld}
use Rattle.cmark_inline.proofs.ReachedItems.{shows-on}

module _ (leaf : LeafText) (reader : Reader) (read : Leaf) (place : ℕ → ℕ) (r : ReadsPlaces leaf reader read place) where
  abbrev text : List ℕ
  text = text_of leaf

  abbrev cell : Bool
  cell = is_cell_of leaf

  -- each place is at least one more than the place before
  rises : (n k : ℕ) → k + n ≤ length text → place k + n ≤ place (k + n)
  rises zero k le = let q = ap place (let z : k + 0 ≡ k = omega arith in z) in omega (arith, q)
  rises (suc n) k le =
      let i = rises n k (omega (arith, le)) in
      let o = r.places.places.order (k + n) (k + suc n) (omega arith) le in
      omega (arith, i, o)

  -- of adjacent bytes, those between the first and the last are adjacent too
  inner-side : (s e : ℕ) → Together reader read text place r.places s e → s + 1 < e - 1 → Together reader read text place r.places (s + 1) (e - 1)
  inner-side s e t some =
      let w = t.within in
      let z = t.sizes in
      let a = rises 1 s (omega (arith, some, w)) in
      let b = rises (e - 2 - (s + 1)) (s + 1) (omega (arith, some, w)) in
      let c = rises 1 (e - 2) (omega (arith, some, w)) in
      let p = ap place (let q : s + 1 + (e - 2 - (s + 1)) ≡ e - 1 - 1 = omega (arith, some) in q) in
      let q = ap place (let q : e - 2 + 1 ≡ e - 1 = omega (arith, some) in q) in
      let u = ap place (let q : e - 2 ≡ e - 1 - 1 = omega arith in q) in
      record { some = some; within = omega (arith, w); sizes = omega (arith, z, a, b, c, p, q, u, some); last = omega (arith, z, a, b, c, p, q, u, some); content = λ i lt. subst (λ n. is_content (get_or text n 0) ≡ true) (let q : s + (1 + i) ≡ s + 1 + i = omega arith in q) (t.content (1 + i) (omega (arith, lt))) }

  joined : (at : ℕ) (x : Item) (resume : ℕ) → begins_at reader.options reader.lookup cell text at ≡ Stands x resume → may_open_markup reader.options.email_autolinks (drop at text) ≡ false → Joined reader read text place r.places (Stands x resume)
  joined at x resume t none =
      subst (Joined reader read text place r.places) (ap (λ c. begins_at reader.options reader.lookup c text at) r.cell ∙ t) (begins-joined reader read text place r.places at none)

  module _ {F : Type 0} (R : F → BrokenLink → Option (CowStr × CowStr) → F → Type 0) (before : Between) (tally : Tally) (initial now : F) (here : Cursor) (m : ℕ) (old new : InlineState) (next : Cursor) (sound : IsSound old) (h : HasReached R leaf reader read place before tally initial m old now)
      (held : IsHeld reader.options reader.lookup cell text m here.pending here.at) where
    pub autolink-reached : AppendsAutolink reader.options reader.lookup cell text here old new next → here.at + 1 < next.at - 1 → HasReached R leaf reader read place before tally initial next.at new now
    autolink-reached a some =
        let uri : List ℕ = slice text (here.at + 1) (next.at - 1) in
        let x : Item = record { kind = Autolink uri; start = here.at; end = next.at } in
        let w = item-within reader.options reader.lookup cell text here.at x next.at a.token in
        let further = w.further in
        let within = w.within in
        let front : List Slot = a.slots.before in
        let first : Slot = record { kind = kind.BeginLink element.Autolink (length old.links.items); start = here.at; end = next.at } in
        let middle : Slot = record { kind = kind.Text; start = here.at + 1; end = next.at - 1 } in
        let last : Slot = record { kind = kind.End; start = next.at - 1; end = next.at } in
        let more : List Slot = first ∷ (middle ∷ (last ∷ [])) in
        let slots_are : new.slots.items ≡ front ++ more =
        a.slots.slots_are ∙ ap (λ (l : List Slot). l ++ (last ∷ [])) (append_assoc front (first ∷ []) (middle ∷ [])) ∙ append_assoc front (first ∷ (middle ∷ [])) (last ∷ []) in
        let room = has-room new front more slots_are in
        let mid : InlineState = with_slots old new front room in
        let f = flushed leaf reader read place r R before tally initial now m here.pending here.at old new front room h held (omega (arith, further, within)) (stops-there reader.options reader.lookup cell text here.at (Stands x next.at) a.token refl) a.slots.text in
        let others = a.others in
        let none = no-markup-by reader.options reader.lookup cell text here.at (Stands x next.at) a.token refl in
        let t = other-token leaf reader read place r here.at x next.at (omega (arith, further, within)) a.token refl none in
        let side : Together reader read text place r.places here.at next.at = joined here.at x next.at a.token none refl in
        let inside = inner-side here.at next.at side some in
        let texts : new.texts.items ≡ old.texts.items = ap (λ (s : InlineState). s.texts.items) others in
        let like = text-like leaf reader read place r (here.at + 1) (next.at - 1) inside Own (λ y. refl) new.texts.items new.links.items in
        let start_is : place (here.at + 1) ≡ suc (place here.at) =
        (let i = inside.sizes in let z = side.sizes in let l = inside.last in let p = ap place (let q : next.at - 1 - 1 ≡ next.at - 2 = omega arith in q) in omega (arith, i, z, l, p, some)) in
        let own : IsLike reader.source (shown_slot leaf new.texts.items new.links.items middle) (ItemSlot (item Own (suc (place here.at)) (suc (place (next.at - 1)) - 1))) =
        subst (λ n. IsLike reader.source (shown_slot leaf new.texts.items new.links.items middle) (ItemSlot (item Own (suc (place here.at)) n))) (sym inside.last ∙ (let q : place (next.at - 1) ≡ suc (place (next.at - 1)) - 1 = omega arith in q))
        (subst (λ n. IsLike reader.source (shown_slot leaf new.texts.items new.links.items middle) (ItemSlot (item Own n (suc (place (next.at - 1 - 1)))))) start_is like) in
        let shown : List Slot → List row.Slot = shown_slots leaf new.texts.items new.links.items in
        let same : shown front ≡ shown_slots leaf old.texts.items old.links.items front =
        shown-longer leaf old.texts.items new.texts.items [] old.links.items new.links.items (a.parts ∷ []) front (texts ∙ sym (append-nil old.texts.items)) a.links
        ((keeps-pending old mid refl here.pending here.at a.slots.text).sound sound).named in
        let link_is : linked_at new.links.items (length old.links.items) ≡ address_link uri =
        ap (λ (l : List Link). linked_at l (length old.links.items)) a.links ∙ ap linked_or_none (get-last old.links.items a.parts)
        ∙ ap (λ y. record { link_type = y; destination = text_bytes a.parts.dest_url; title = text_bytes a.parts.title; id = text_bytes a.parts.id }) a.link.form
        ∙ ap (λ y. record { link_type = address_type uri; destination = y; title = text_bytes a.parts.title; id = text_bytes a.parts.id }) a.link.destination
        ∙ ap (λ y. record { link_type = address_type uri; destination = uri; title = y; id = text_bytes a.parts.id }) a.link.title
        ∙ ap (λ (y : List ℕ). record { link_type = address_type uri; destination = uri; title = []; id = y }) a.link.id in
        let first_is : shown_slot leaf new.texts.items new.links.items first ≡ row.BeginSlot (tag.Link (address_link uri)) (place here.at) (suc (place (next.at - 1))) =
        ap (λ y. row.BeginSlot (tag.Link y) (place_of leaf here.at) (place_of leaf (next.at - 1) + 1)) link_is
        ∙ ap (λ n. row.BeginSlot (tag.Link (address_link uri)) n (place_of leaf (next.at - 1) + 1)) (r.bytes here.at (omega (arith, further, within)))
        ∙ ap (λ n. row.BeginSlot (tag.Link (address_link uri)) (place here.at) (n + 1)) (r.bytes (next.at - 1) (omega (arith, further, within)))
        ∙ ap (row.BeginSlot (tag.Link (address_link uri)) (place here.at)) (let q : place (next.at - 1) + 1 ≡ suc (place (next.at - 1)) = omega arith in q) in
        let q = pass (moved (place next.at) f.p.state) (join f.p.here (Single (item (Autolink uri) (place here.at) (suc (place (next.at - 1)))) Nil)) in
        let brackets : List BracketPlace = map (bracket_place place) f.bs in
        let reached = reached-autolink reader read before f.p brackets (shown_slots leaf old.texts.items old.links.items front) (places_of old.delimiters.placed.items) (map (λ (y : PlacedQuote). y.slot) old.quotes.placed.items)
        (runs_of old.delimiters.placed.items) (quotes_of old.quotes.placed.items) f.has_read uri (place here.at) (suc (place (next.at - 1))) (place next.at) (shown_slot leaf new.texts.items new.links.items middle) (ap (token reader read) f.at_is ∙ t) own in
        let all : shown_slots leaf old.texts.items old.links.items front ++ (row.BeginSlot (tag.Link (address_link uri)) (place here.at) (suc (place (next.at - 1))) ∷ (shown_slot leaf new.texts.items new.links.items middle ∷ (row.EndSlot ∷ []))) ≡ shown new.slots.items =
        ap (λ l. l ++ (row.BeginSlot (tag.Link (address_link uri)) (place here.at) (suc (place (next.at - 1))) ∷ (shown_slot leaf new.texts.items new.links.items middle ∷ (row.EndSlot ∷ [])))) (sym same)
        ∙ ap (λ y. shown front ++ (y ∷ (shown_slot leaf new.texts.items new.links.items middle ∷ (row.EndSlot ∷ [])))) (sym first_is)
        ∙ sym (map-append (shown_slot leaf new.texts.items new.links.items) front more) ∙ ap shown (sym slots_are) in
        let runs : new.delimiters.placed.items ≡ old.delimiters.placed.items = ap (λ (s : InlineState). s.delimiters.placed.items) others in
        let quotes : new.quotes.placed.items ≡ old.quotes.placed.items = ap (λ (s : InlineState). s.quotes.placed.items) others in
        record {
          p = q;
          bs = f.bs;
          has_read =
              subst (λ l. IsReached reader read before q brackets (shown new.slots.items) (places_of new.delimiters.placed.items) (map (λ (y : PlacedQuote). y.slot) l) (runs_of new.delimiters.placed.items) (quotes_of l)) (sym quotes)
              (subst (λ l. IsReached reader read before q brackets (shown new.slots.items) (places_of l) (map (λ (y : PlacedQuote). y.slot) old.quotes.placed.items) (runs_of l) (quotes_of old.quotes.placed.items)) (sym runs)
              (subst (λ l. IsReached reader read before q brackets l (places_of old.delimiters.placed.items) (map (λ (y : PlacedQuote). y.slot) old.quotes.placed.items) (runs_of old.delimiters.placed.items) (quotes_of old.quotes.placed.items)) all reached));
          at_is = refl;
          shows = shows-on reader.options.wikilinks text place here.at next.at f.p.state (moved (place next.at) f.p.state) f.bs mid new (omega (arith, further))
              (record { examined = ap (λ (s : InlineState). s.delimiters.examined) others; brackets = ap (λ (s : InlineState). s.brackets) others; doubled = ap (λ (s : InlineState). s.doubled) others; expansion_left = ap (λ (s : InlineState). s.expansion_left) others; label = ap (λ (s : InlineState). s.label_close) others })
              refl refl refl f.shows;
          answered = f.answered;
          counted = counted-item reader f.p.here tally tally.sought mid.delimiters.examined new.delimiters.examined (item (Autolink uri) (place here.at) (suc (place (next.at - 1)))) (ap (λ (s : InlineState). s.delimiters.examined) others) (record { html = omega arith; closers = omega arith }) f.counted;
        }
