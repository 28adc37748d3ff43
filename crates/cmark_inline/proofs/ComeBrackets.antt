-- With the slot of an opening bracket, the grammar's pass has read the bracket.
use Rattle.std.specs.Prelude.{Option}
use Rattle.std.proofs.Common.{◌≡◌, ℕ, suc, ◌+◌, ◌-◌, ◌<◌, ◌≤◌, Bool, true, false, List, [], ◌∷◌, ◌++◌, length, get_or, refl, sym, ap, ◌∙◌, subst, arith}
use Rattle.std.proofs.lemmas.List.{get_or_push}
use Rattle.cmark_grammar.specs.BracketStates.{opened}
use Rattle.cmark_grammar.specs.InlineTokens.{bracket, longest, token}
use Rattle.cmark_grammar.specs.Items as items
use Rattle.cmark_grammar.specs.Items.{Own, Opens}
use Rattle.cmark_grammar.specs.LeafReading.{Between}
use Rattle.cmark_grammar.specs.LeafText.{Leaf}
use Rattle.cmark_grammar.specs.Parts.{Nil, Opening}
use Rattle.cmark_grammar.specs.Readers.{Reader}
use Rattle.cmark_leaf_text.specs.Reads.{is_cell_of, text_of}
use Rattle.cmark_leaf_text.specs.declared.leaf_text.LeafText.{LeafText}
use Rattle.cmark_values.specs.declared.text.CowStr.{CowStr}
use Rattle.cmark_inline_model.specs.BracketPass.{pass}
use Rattle.cmark_inline_model.specs.LikeSlots.{IsLike}
use Rattle.cmark_inline_model.specs.PartLists.{join}
use Rattle.cmark_inline_model.specs.PlacedTokens.{placed, one_stretch, text_reader}
use Rattle.cmark_inline_model.specs.SlotRows.{ItemSlot}
use Rattle.cmark_inline.specs.BracketViews.{after_opening}
use Rattle.cmark_inline.specs.Closers.{ShowsState}
use Rattle.cmark_inline.specs.CursorProgress.{HasReached}
use Rattle.cmark_inline.specs.Reached.{ReadsPlaces}
use Rattle.cmark_slots.specs.SlotViews.{shown_slot, shown_slots}
use Rattle.cmark_inline.specs.SpecialReads.{OpensBracket}
use Rattle.cmark_inline.specs.Tokens.{begins_at}
use Rattle.cmark_slots.specs.declared.bracket.Bracket.{Bracket}
use Rattle.cmark_inline.specs.declared.callback.BrokenLink.{BrokenLink}
use Rattle.cmark_slots.specs.declared.slot.Slot.{Slot}
use Rattle.cmark_inline.specs.declared.state.InlineState.{InlineState}
use Rattle.cmark_inline.specs.declared.step.Cursor.{Cursor}
use Rattle.cmark_inline.specs.LeastSteps.{Tally}
use Rattle.cmark_inline.proofs.ComeItems.{flushed, has-room, with_slots}
use Rattle.cmark_inline.proofs.ComeMarks.{side-by-side, steps, text-like}
use Rattle.cmark_inline.proofs.LeastCounted.{counted-opening}
use Rattle.cmark_inline.proofs.MarkupTokens.{no-markup-by}
use Rattle.cmark_inline.proofs.PendingReads.{stops-there, token-placed}
use Rattle.cmark_inline.proofs.PendingTexts.{text_slot}
use Rattle.cmark_inline.proofs.PlainChains.{IsHeld}
use Rattle.cmark_inline.proofs.ReachedItems.{shows-on}
use Rattle.cmark_inline.proofs.ReachedSteps.{opening-read}

-- the last element of a list
last-same : {X : Type 0} (xs : List X) (a b : X) → xs ++ (a ∷ []) ≡ xs ++ (b ∷ []) → a ≡ b
last-same xs a b e = sym (get_or_push xs a a (length xs) refl) ∙ ap (λ l. get_or l (length xs) a) e ∙ get_or_push xs b a (length xs) refl

past-size : (is_image : Bool) (at : ℕ) → (at < after_opening is_image at) × ((n : ℕ) → after_opening is_image n ≡ n + (after_opening is_image at - at))
past-size true at = (omega arith, λ n. (let q : n + 2 ≡ n + (at + 2 - at) = omega arith in q))
past-size false at = (omega arith, λ n. (let q : n + 1 ≡ n + (at + 1 - at) = omega arith in q))

module _ (leaf : LeafText) (reader : Reader) (read : Leaf) (place : ℕ → ℕ) (r : ReadsPlaces leaf reader read place) where
  abbrev text : List ℕ
  text = text_of leaf

  abbrev cell : Bool
  cell = is_cell_of leaf

  opening-token : (at : ℕ) (b : items.Bracket) → at ≤ length text → begins_at reader.options reader.lookup cell text at ≡ Opens b → token reader read (place at) ≡ Opens (record { is_image = b.is_image; start = place b.start; end = place b.end })
  unfolding token
  opening-token at b le t =
      token-placed leaf reader read place r at le (no-markup-by reader.options reader.lookup cell text at (Opens b) t refl)
      ∙ ap (λ y. placed place (longest (text_reader reader.options reader.lookup text) (one_stretch cell text) y)) t

  module _ {F : Type 0} (R : F → BrokenLink → Option (CowStr × CowStr) → F → Type 0) (before : Between) (tally : Tally) (initial now : F) (here : Cursor) (m : ℕ) (old new : InlineState) (next : Cursor) (h : HasReached R leaf reader read place before tally initial m old now)
      (held : IsHeld reader.options reader.lookup cell text m here.pending here.at) where
    pub opening-reached : OpensBracket reader.options reader.lookup cell text here old new next → next.at ≤ length text → HasReached R leaf reader read place before tally initial next.at new now
    opening-reached a within =
        let size = past-size a.is_image here.at in
        let some = size.0 in
        let inside = a.inside in
        let further : here.at < next.at = omega (arith, some, inside) in
        let o : items.Bracket = record { is_image = a.is_image; start = place here.at; end = place next.at } in
        let slot : Slot = text_slot here.at next.at in
        let room = has-room new a.puts.before (slot ∷ []) a.puts.slots in
        let mid : InlineState = with_slots old new a.puts.before room in
        let f = flushed leaf reader read place r R before tally initial now m here.pending here.at old new a.puts.before room h held (omega (arith, further, within)) (stops-there reader.options reader.lookup cell text here.at (Opens (bracket a.is_image here.at next.at)) a.token tt) a.puts.text in
        let others = a.puts.others in
        let shows : ShowsState reader.options.wikilinks text place here.at f.p.state f.bs old =
        shows-on reader.options.wikilinks text place here.at here.at f.p.state f.p.state f.bs mid old (omega arith) (record { examined = refl; brackets = refl; doubled = refl; expansion_left = refl; label = refl }) refl refl refl f.shows in
        let source : place next.at ≡ after_opening a.is_image (place here.at) =
        ap place (let q : next.at ≡ here.at + (next.at - here.at) = omega (arith, further) in q)
        ∙ steps leaf reader read place r (next.at - here.at) here.at (omega (arith, further, within)) (λ k low high. a.bytes k low (omega (arith, high, further)))
        ∙ ap (λ n. place here.at + (n - here.at)) inside ∙ sym (size.1 (place here.at)) in
        let opens = a.opens place o f.p.state f.bs (λ k lt. r.places.places.order k here.at lt (omega (arith, further, within))) shows refl inside source in
        let made : Bracket = record { slot = length a.puts.before; runs = length old.delimiters.placed.items; quotes = length old.quotes.placed.items; start = here.at; inside = next.at; is_image = a.is_image } in
        let same : opens.0 ≡ made = last-same old.brackets.standing.items opens.0 made (sym opens.1 ∙ a.puts.standing) in
        let like = text-like leaf reader read place r here.at next.at (side-by-side leaf reader read place r here.at next.at further within a.bytes) Own (λ x. refl) new.texts.items new.links.items in
        let last : suc (place (next.at - 1)) ≡ place next.at = sym (side-by-side leaf reader read place r here.at next.at further within a.bytes).last in
        record {
          p = pass (opened o f.p.state) (join f.p.here (Opening o Nil));
          bs = made ∷ f.bs;
          has_read =
              opening-read leaf reader read place before f.p f.bs mid new f.has_read
              (ap (λ y. shown_slots leaf y new.links.items a.puts.before) (ap (λ (s : InlineState). s.texts.items) others) ∙ ap (λ y. shown_slots leaf old.texts.items y a.puts.before) (ap (λ (s : InlineState). s.links.items) others))
              made o slot (ap (token reader read) f.at_is ∙ opening-token here.at (bracket a.is_image here.at next.at) (omega (arith, further, within)) a.token)
              (subst (λ n. IsLike reader.source (shown_slot leaf new.texts.items new.links.items slot) (ItemSlot (record { kind = Own; start = place here.at; end = n }))) last like)
              refl refl refl refl a.puts.slots (ap (λ (s : InlineState). s.delimiters.placed.items) others) (ap (λ (s : InlineState). s.quotes.placed.items) others);
          at_is = refl;
          shows = subst (λ (b : Bracket). ShowsState reader.options.wikilinks text place next.at (opened o f.p.state) (b ∷ f.bs) new) same opens.2;
          answered = f.answered;
          counted = counted-opening reader f.p.here tally mid.delimiters.examined new.delimiters.examined o (ap (λ (s : InlineState). s.delimiters.examined) others) f.counted;
        }
