-- With one slot more, or with the slots of a run, a quote or an opening bracket, the state represents one step more.
use Rattle.std.specs.Prelude.{map}
use Rattle.std.proofs.Common.{◌≡◌, ℕ, zero, suc, true, List, [], ◌∷◌, ◌++◌, length, refl, sym, ap, ◌∙◌, subst}
use Rattle.std.proofs.lemmas.List.{length-map, map-append}
use Rattle.cmark_grammar.specs.BracketStates.{moved, opened}
use Rattle.cmark_grammar.specs.InlineTokens.{token}
use Rattle.cmark_grammar.specs.Items as items
use Rattle.cmark_grammar.specs.Items.{ItemKind, Quoted, Delimiters, Stands, Opens}
use Rattle.cmark_grammar.specs.LeafReading.{Between}
use Rattle.cmark_grammar.specs.LeafText.{Leaf}
use Rattle.cmark_grammar.specs.Parts.{Nil, Single, Opening}
use Rattle.cmark_grammar.specs.Readers.{Reader}
use Rattle.cmark_grammar.specs.Siblings.{item}
use Rattle.cmark_emphasis.specs.Shown.{shown_quote, shown_whole}
use Rattle.cmark_leaf_text.specs.declared.leaf_text.LeafText.{LeafText}
use Rattle.cmark_inline_model.specs.BracketPass.{Pass, pass}
use Rattle.cmark_inline_model.specs.LikeSlots.{IsLike, AreLike}
use Rattle.cmark_inline_model.specs.PartLists.{join}
use Rattle.cmark_inline_model.specs.RowParts.{BracketPlace, text_slot}
use Rattle.cmark_inline_model.specs.RowPasses.{IsReached, has_own_slot}
use Rattle.cmark_inline_model.specs.SlotRows as row
use Rattle.cmark_inline_model.specs.SlotRows.{ItemSlot, run_slots, run_places}
use Rattle.cmark_inline_model.proofs.RowPasses.{reached-own, reached-run, reached-quote, reached-opening}
use Rattle.cmark_slots.specs.MarkedSlots.{places_of}
use Rattle.cmark_inline.specs.Reached.{HasRead, bracket_place, runs_of, quotes_of}
use Rattle.cmark_slots.specs.SlotViews.{shown_slot, shown_slots}
use Rattle.cmark_slots.specs.declared.bracket.Bracket.{Bracket}
use Rattle.cmark_emphasis.specs.declared.run.PlacedRun.{PlacedRun}
use Rattle.cmark_slots.specs.declared.quote.PlacedQuote.{PlacedQuote}
use Rattle.cmark_slots.specs.declared.slot.Slot.{Slot}
use Rattle.cmark_inline.specs.declared.state.InlineState.{InlineState}

-- the places of the bytes of runs, and one run more
run-places-append : (at size : ℕ) (a b : List ℕ) → run_places at size (a ++ b) ≡ run_places at size a ++ b
run-places-append at zero a b = refl
run-places-append at (suc size) a b = ap (λ l. at ∷ l) (run-places-append (suc at) size a b)

places-append : (a b : List PlacedRun) → places_of (a ++ b) ≡ places_of a ++ places_of b
places-append [] b = refl
places-append (x ∷ a) b = ap (run_places x.slot x.run_length) (places-append a b) ∙ run-places-append x.slot x.run_length (places_of a) (places_of b)

module _ (leaf : LeafText) (reader : Reader) (read : Leaf) (place : ℕ → ℕ) (before : Between) (p : Pass) (bs : List Bracket) (old new : InlineState) (h : HasRead leaf reader read place before p bs old)
    (same : shown_slots leaf new.texts.items new.links.items old.slots.items ≡ shown_slots leaf old.texts.items old.links.items old.slots.items) where
  abbrev shown : List Slot → List row.Slot
  shown slots = shown_slots leaf new.texts.items new.links.items slots

  abbrev slots_before : List row.Slot
  slots_before = shown_slots leaf old.texts.items old.links.items old.slots.items

  abbrev places_before : List ℕ
  places_before = map (λ (q : PlacedQuote). q.slot) old.quotes.placed.items

  abbrev brackets : List BracketPlace
  brackets = map (bracket_place place) bs

  grown : (more : List Slot) → new.slots.items ≡ old.slots.items ++ more → slots_before ++ shown more ≡ shown new.slots.items
  grown more e = ap (λ l. l ++ shown more) (sym same) ∙ sym (map-append (shown_slot leaf new.texts.items new.links.items) old.slots.items more) ∙ sym (ap shown e)

  count : length slots_before ≡ length old.slots.items
  count = length-map old.slots.items (shown_slot leaf old.texts.items old.links.items)

  -- a slot of its own
  pub own-read : (kind : ItemKind) (start end resume : ℕ) (slot : Slot) → token reader read p.state.at ≡ Stands (item kind start end) resume → has_own_slot kind ≡ true → IsLike reader.source (shown_slot leaf new.texts.items new.links.items slot) (ItemSlot (item kind start end))
      → new.slots.items ≡ old.slots.items ++ (slot ∷ []) → new.delimiters.placed.items ≡ old.delimiters.placed.items → new.quotes.placed.items ≡ old.quotes.placed.items
      → HasRead leaf reader read place before (pass (moved resume p.state) (join p.here (Single (item kind start end) Nil))) bs new
  own-read kind start end resume slot t own like slots_are runs_are quotes_are =
      let q = pass (moved resume p.state) (join p.here (Single (item kind start end) Nil)) in
      let r = reached-own reader read before p brackets slots_before (places_of old.delimiters.placed.items) places_before (runs_of old.delimiters.placed.items) (quotes_of old.quotes.placed.items) h kind start end resume
      (shown_slot leaf new.texts.items new.links.items slot) t own like in
      subst (λ l. IsReached reader read before q brackets (shown new.slots.items) (places_of new.delimiters.placed.items) (map (λ (x : PlacedQuote). x.slot) l) (runs_of new.delimiters.placed.items) (quotes_of l)) (sym quotes_are)
      (subst (λ l. IsReached reader read before q brackets (shown new.slots.items) (places_of l) places_before (runs_of l) (quotes_of old.quotes.placed.items)) (sym runs_are)
      (subst (λ l. IsReached reader read before q brackets l (places_of old.delimiters.placed.items) places_before (runs_of old.delimiters.placed.items) (quotes_of old.quotes.placed.items)) (grown (slot ∷ []) slots_are) r))

  -- a delimiter run
  pub run-read : (run : PlacedRun) (start end resume : ℕ) (more : List Slot) → token reader read p.state.at ≡ Stands (item (Delimiters (shown_whole run)) start end) resume → AreLike reader.source (shown more) (run_slots start run.run_length []) → run.slot ≡ length old.slots.items
      → new.slots.items ≡ old.slots.items ++ more → new.delimiters.placed.items ≡ old.delimiters.placed.items ++ (run ∷ []) → new.quotes.placed.items ≡ old.quotes.placed.items
      → HasRead leaf reader read place before (pass (moved resume p.state) (join p.here (Single (item (Delimiters (shown_whole run)) start end) Nil))) bs new
  run-read run start end resume more t like slot_is slots_are runs_are quotes_are =
      let kind = Delimiters (shown_whole run) in
      let q = pass (moved resume p.state) (join p.here (Single (item kind start end) Nil)) in
      let r = reached-run reader read before p brackets slots_before (places_of old.delimiters.placed.items) places_before (runs_of old.delimiters.placed.items) (quotes_of old.quotes.placed.items) h (shown_whole run) start end resume
      (shown more) t like in
      let bytes : places_of old.delimiters.placed.items ++ run_places (length slots_before) run.run_length [] ≡ places_of new.delimiters.placed.items =
      ap (λ n. places_of old.delimiters.placed.items ++ run_places n run.run_length []) (count ∙ sym slot_is) ∙ sym (places-append old.delimiters.placed.items (run ∷ [])) ∙ ap places_of (sym runs_are) in
      let runs : runs_of old.delimiters.placed.items ++ (shown_whole run ∷ []) ≡ runs_of new.delimiters.placed.items =
      sym (map-append shown_whole old.delimiters.placed.items (run ∷ [])) ∙ ap runs_of (sym runs_are) in
      subst (λ l. IsReached reader read before q brackets (shown new.slots.items) (places_of new.delimiters.placed.items) (map (λ (x : PlacedQuote). x.slot) l) (runs_of new.delimiters.placed.items) (quotes_of l)) (sym quotes_are)
      (subst (λ l. IsReached reader read before q brackets (shown new.slots.items) (places_of new.delimiters.placed.items) places_before l (quotes_of old.quotes.placed.items)) runs
      (subst (λ l. IsReached reader read before q brackets (shown new.slots.items) l places_before (runs_of old.delimiters.placed.items ++ (shown_whole run ∷ [])) (quotes_of old.quotes.placed.items)) bytes
      (subst (λ l. IsReached reader read before q brackets l (places_of old.delimiters.placed.items ++ run_places (length slots_before) run.run_length []) places_before (runs_of old.delimiters.placed.items ++ (shown_whole run ∷ [])) (quotes_of old.quotes.placed.items))
      (grown more slots_are) r)))

  -- a quote
  pub quote-read : (quote : PlacedQuote) (start end resume : ℕ) (slot : Slot) → token reader read p.state.at ≡ Stands (item (Quoted (shown_quote quote.quote)) start end) resume
      → IsLike reader.source (shown_slot leaf new.texts.items new.links.items slot) (ItemSlot (item (Quoted (shown_quote quote.quote)) start end)) → quote.slot ≡ length old.slots.items
      → new.slots.items ≡ old.slots.items ++ (slot ∷ []) → new.delimiters.placed.items ≡ old.delimiters.placed.items → new.quotes.placed.items ≡ old.quotes.placed.items ++ (quote ∷ [])
      → HasRead leaf reader read place before (pass (moved resume p.state) (join p.here (Single (item (Quoted (shown_quote quote.quote)) start end) Nil))) bs new
  quote-read quote start end resume slot t like slot_is slots_are runs_are quotes_are =
      let kind = Quoted (shown_quote quote.quote) in
      let q = pass (moved resume p.state) (join p.here (Single (item kind start end) Nil)) in
      let r = reached-quote reader read before p brackets slots_before (places_of old.delimiters.placed.items) places_before (runs_of old.delimiters.placed.items) (quotes_of old.quotes.placed.items) h (shown_quote quote.quote) start end resume
      (shown_slot leaf new.texts.items new.links.items slot) t like in
      let places : places_before ++ (length slots_before ∷ []) ≡ map (λ (x : PlacedQuote). x.slot) new.quotes.placed.items =
      ap (λ n. places_before ++ (n ∷ [])) (count ∙ sym slot_is) ∙ sym (map-append (λ (x : PlacedQuote). x.slot) old.quotes.placed.items (quote ∷ [])) ∙ ap (map (λ (x : PlacedQuote). x.slot)) (sym quotes_are) in
      let quotes : quotes_of old.quotes.placed.items ++ (shown_quote quote.quote ∷ []) ≡ quotes_of new.quotes.placed.items =
      sym (map-append (λ (x : PlacedQuote). shown_quote x.quote) old.quotes.placed.items (quote ∷ [])) ∙ ap quotes_of (sym quotes_are) in
      subst (λ l. IsReached reader read before q brackets (shown new.slots.items) (places_of l) (map (λ (x : PlacedQuote). x.slot) new.quotes.placed.items) (runs_of l) (quotes_of new.quotes.placed.items)) (sym runs_are)
      (subst (λ l. IsReached reader read before q brackets (shown new.slots.items) (places_of old.delimiters.placed.items) (map (λ (x : PlacedQuote). x.slot) new.quotes.placed.items) (runs_of old.delimiters.placed.items) l) quotes
      (subst (λ l. IsReached reader read before q brackets (shown new.slots.items) (places_of old.delimiters.placed.items) l (runs_of old.delimiters.placed.items) (quotes_of old.quotes.placed.items ++ (shown_quote quote.quote ∷ []))) places
      (subst (λ l. IsReached reader read before q brackets l (places_of old.delimiters.placed.items) (places_before ++ (length slots_before ∷ [])) (runs_of old.delimiters.placed.items) (quotes_of old.quotes.placed.items ++ (shown_quote quote.quote ∷ [])))
      (grown (slot ∷ []) slots_are) r)))

  -- an opening bracket
  pub opening-read : (b : Bracket) (opener : items.Bracket) (slot : Slot) → token reader read p.state.at ≡ Opens opener → IsLike reader.source (shown_slot leaf new.texts.items new.links.items slot) (text_slot opener)
      → opener ≡ record { is_image = b.is_image; start = place b.start; end = place b.inside } → b.slot ≡ length old.slots.items → b.runs ≡ length old.delimiters.placed.items → b.quotes ≡ length old.quotes.placed.items
      → new.slots.items ≡ old.slots.items ++ (slot ∷ []) → new.delimiters.placed.items ≡ old.delimiters.placed.items → new.quotes.placed.items ≡ old.quotes.placed.items
      → HasRead leaf reader read place before (pass (opened opener p.state) (join p.here (Opening opener Nil))) (b ∷ bs) new
  opening-read b opener slot t like opener_is slot_is runs_is quotes_is slots_are runs_are quotes_are =
      let q = pass (opened opener p.state) (join p.here (Opening opener Nil)) in
      let r = reached-opening reader read before p brackets slots_before (places_of old.delimiters.placed.items) places_before (runs_of old.delimiters.placed.items) (quotes_of old.quotes.placed.items) h opener
      (shown_slot leaf new.texts.items new.links.items slot) t like in
      let made : items.Bracket → ℕ → ℕ → ℕ → BracketPlace = λ o s n m. record { bracket = o; slot = s; runs = n; quotes = m } in
      let n = length-map old.delimiters.placed.items shown_whole in
      let m = length-map old.quotes.placed.items (λ (x : PlacedQuote). shown_quote x.quote) in
      let place_is : made opener (length slots_before) (length (runs_of old.delimiters.placed.items)) (length (quotes_of old.quotes.placed.items)) ≡ bracket_place place b =
      ap (λ o. made o (length slots_before) (length (runs_of old.delimiters.placed.items)) (length (quotes_of old.quotes.placed.items))) opener_is
      ∙ ap (λ s. made (bracket_place place b).bracket s (length (runs_of old.delimiters.placed.items)) (length (quotes_of old.quotes.placed.items))) (count ∙ sym slot_is)
      ∙ ap (λ s. made (bracket_place place b).bracket b.slot s (length (quotes_of old.quotes.placed.items))) (n ∙ sym runs_is)
      ∙ ap (λ s. made (bracket_place place b).bracket b.slot b.runs s) (m ∙ sym quotes_is) in
      subst (λ l. IsReached reader read before q (map (bracket_place place) (b ∷ bs)) (shown new.slots.items) (places_of new.delimiters.placed.items) (map (λ (x : PlacedQuote). x.slot) l) (runs_of new.delimiters.placed.items) (quotes_of l)) (sym quotes_are)
      (subst (λ l. IsReached reader read before q (map (bracket_place place) (b ∷ bs)) (shown new.slots.items) (places_of l) places_before (runs_of l) (quotes_of old.quotes.placed.items)) (sym runs_are)
      (subst (λ l. IsReached reader read before q (map (bracket_place place) (b ∷ bs)) l (places_of old.delimiters.placed.items) places_before (runs_of old.delimiters.placed.items) (quotes_of old.quotes.placed.items)) (grown (slot ∷ []) slots_are)
      (subst (λ x. IsReached reader read before q (x ∷ brackets) (slots_before ++ (shown_slot leaf new.texts.items new.links.items slot ∷ [])) (places_of old.delimiters.placed.items) places_before (runs_of old.delimiters.placed.items) (quotes_of old.quotes.placed.items))
      place_is r)))
