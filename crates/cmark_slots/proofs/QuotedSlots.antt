-- Quotes as slots of the model, in which they become characters.
use Rattle.std.proofs.Common.{◌≡◌, ◌⊎◌, inl, inr, ℕ, suc, ◌<◌, List, [], ◌∷◌, length, get_or, set, ⊎_elim, refl, sym, ap, subst, ◌∙◌, arith}
use Rattle.std.specs.Prelude.{All, map, encode_utf8}
use Rattle.std.proofs.lemmas.Bool.{cases_eq}
use Rattle.std.proofs.lemmas.List.{map-set, get_or-map, get_or-set_same, get_or-set_other, length-set}
use Rattle.cmark_emphasis.specs.Shown.{shown_quote}
use Rattle.cmark_grammar.specs.Items as items
use Rattle.cmark_grammar.specs.Quotes.{Quote, quote_character, quote_characters}
use Rattle.cmark_inline_model.specs.SlotRows as row
use Rattle.cmark_inline_model.specs.SlotRows.{quoted, start_in, end_in, character_slot}
use Rattle.cmark_leaf_text.specs.declared.leaf_text.LeafText.{LeafText}
use Rattle.cmark_values.specs.declared.text.CowStr.{CowStr}
use Rattle.cmark_slots.specs.MarkedSlots.{HaveTexts}
use Rattle.cmark_slots.specs.QuoteSlots.{with_character, with_characters}
use Rattle.cmark_slots.specs.SlotViews.{slot_as, shown_slot, shown_slots, item_slot, first_of, slot_end}
use Rattle.cmark_references.specs.declared.link.Link.{Link}
use Rattle.cmark_slots.specs.declared.quote.PlacedQuote.{PlacedQuote}
use Rattle.cmark_slots.specs.declared.slot.Slot.{Slot}
use Rattle.cmark_slots.specs.declared.slot.SlotKind.{SlotKind}
use Rattle.cmark_slots.specs.declared.slot.SlotKind.TheVariants as kind
use Rattle.cmark_slots.proofs.Quotes.{becomes}

-- texts and characters have the range of their bytes
abbrev HasRange : SlotKind → Type 0
HasRange k = (k ≡ kind.Text) ⊎ ((character : ℕ) × (k ≡ kind.Character character))

abbrev HaveRanges : List Slot → List PlacedQuote → Type 0
HaveRanges slots placed = All (λ (p : PlacedQuote). (p.slot < length slots) × ((d : Slot) → HasRange (get_or slots p.slot d).kind)) placed

-- the slot of a quote, as it becomes a character
abbrev as_character : (character : ℕ) → Slot → Slot
as_character character slot = record { kind = kind.Character character; start = slot.start; end = slot.end }

ranges-stay : (slots : List Slot) (at character : ℕ) (d0 : Slot) (placed : List PlacedQuote) → at < length slots → HaveRanges slots placed
    → HaveRanges (set slots at (as_character character (get_or slots at d0))) placed
ranges-stay slots at character d0 placed lt h k p within =
    let made = as_character character (get_or slots at d0) in
    let i = h k p within in
    let n = length-set slots at made in
    let m = i.0 in (
      (let q : (get_or placed k p).slot < length (set slots at made) = omega (arith, m, n) in q),
      λ d. ⊎_elim
          (λ (e : (get_or placed k p).slot ≡ at). subst (λ (s : Slot). HasRange s.kind) (sym (ap (λ j. get_or (set slots at made) j d) e ∙ get_or-set_same slots at made d lt)) (inr (character, refl)))
          (λ differ. subst (λ (s : Slot). HasRange s.kind) (sym (get_or-set_other slots at (get_or placed k p).slot made d differ)) (i.1 d))
          (cases_eq (get_or placed k p).slot at),
    )

module _ (leaf : LeafText) (texts : List CowStr) (links : List Link) where
  abbrev view : Slot → row.Slot
  view slot = shown_slot leaf texts links slot

  abbrev views : List Slot → List row.Slot
  views slots = shown_slots leaf texts links slots

  pub view-at : (slots : List Slot) (at : ℕ) (d : Slot) (e : row.Slot) → at < length slots → get_or (views slots) at e ≡ view (get_or slots at d)
  view-at slots at d e lt = get_or-map (shown_slot leaf texts links) slots at d e lt

  starts : (slot : Slot) (k : SlotKind) → HasRange k → start_in (slot_as leaf texts links slot k) ≡ first_of leaf slot
  starts slot k (inl e) = ap (λ (x : SlotKind). start_in (slot_as leaf texts links slot x)) e
  starts slot k (inr h) = ap (λ (x : SlotKind). start_in (slot_as leaf texts links slot x)) h.1

  ends : (slot : Slot) (k : SlotKind) → HasRange k → end_in (slot_as leaf texts links slot k) ≡ slot_end leaf slot
  ends slot k (inl e) = ap (λ (x : SlotKind). end_in (slot_as leaf texts links slot x)) e
  ends slot k (inr h) = ap (λ (x : SlotKind). end_in (slot_as leaf texts links slot x)) h.1

  one-shown : (slots : List Slot) (at character : ℕ) (d : Slot) → at < length slots → HasRange (get_or slots at d).kind
      → views (with_character at character slots) ≡ set (views slots) at (character_slot character (get_or (views slots) at row.NothingSlot))
  one-shown slots at character d lt h =
      let s : Slot = get_or slots at d in
      let v = view-at slots at d row.NothingSlot lt in
      ap (shown_slots leaf texts links) (sym (becomes slots at character d lt))
      ∙ map-set (shown_slot leaf texts links) slots at (as_character character s)
      ∙ ap (λ n. set (views slots) at (item_slot (items.Written (encode_utf8 character)) n (slot_end leaf s))) (sym (ap start_in v ∙ starts s s.kind h))
      ∙ ap (λ n. set (views slots) at (item_slot (items.Written (encode_utf8 character)) (start_in (get_or (views slots) at row.NothingSlot)) n)) (sym (ap end_in v ∙ ends s s.kind h))

  abbrev quotes : List PlacedQuote → List Quote
  quotes placed = map shown_quote (map (λ (p : PlacedQuote). p.quote) placed)

  all-shown : (placed : List PlacedQuote) (before : List Quote) (slots : List Slot) → HaveRanges slots placed
      → views (with_characters placed (quote_characters before (quotes placed)) slots) ≡ quoted (map (λ (p : PlacedQuote). p.slot) placed) (quote_characters before (quotes placed)) (views slots)
  all-shown [] before slots h = refl
  all-shown (p ∷ placed) before slots h =
      let q : Quote = shown_quote p.quote in
      let c : ℕ = quote_character before q (quotes placed) in
      let d0 : Slot = record { kind = kind.Text; start = 0; end = 0 } in
      let zero-in : 0 < length (p ∷ placed) = omega arith in
      let first = h 0 p zero-in in
      let now : List Slot = with_character p.slot c slots in
      let kept : HaveRanges now placed =
      subst (λ (l : List Slot). HaveRanges l placed) (becomes slots p.slot c d0 first.0)
      (ranges-stay slots p.slot c d0 placed first.0 (λ k x lt. h (suc k) x (let g : suc k < length (p ∷ placed) = omega (arith, lt) in g))) in
      all-shown placed (q ∷ before) now kept
      ∙ ap (quoted (map (λ (x : PlacedQuote). x.slot) placed) (quote_characters (q ∷ before) (quotes placed))) (one-shown slots p.slot c d0 first.0 (first.1 d0))

  pub quotes-shown : (placed : List PlacedQuote) (slots : List Slot) → HaveTexts slots placed
      → views (with_characters placed (quote_characters [] (quotes placed)) slots) ≡ quoted (map (λ (p : PlacedQuote). p.slot) placed) (quote_characters [] (quotes placed)) (views slots)
  quotes-shown placed slots h = all-shown placed [] slots (λ k p lt. let i = h k p lt in (i.0, λ d. inl (i.1 d)))
