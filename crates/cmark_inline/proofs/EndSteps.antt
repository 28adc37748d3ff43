-- The begin and the end of a leaf, and a closing bracket that remains a text, in the code and in the grammar.
use Rattle.std.specs.Prelude.{map}
use Rattle.std.proofs.Common.{◌≡◌, ℕ, List, [], ◌∷◌, ◌++◌, length, sym, ap, ◌∙◌, subst}
use Rattle.std.proofs.lemmas.List.{map-append}
use Rattle.cmark_grammar.specs.BracketDecisions.{decide}
use Rattle.cmark_grammar.specs.BracketReading.{Comes}
use Rattle.cmark_grammar.specs.BracketStates.{State, StaysText}
use Rattle.cmark_grammar.specs.Emphasis.{Pair, IsEmphasis}
use Rattle.cmark_grammar.specs.InlineTokens.{token}
use Rattle.cmark_grammar.specs.Items as items
use Rattle.cmark_grammar.specs.Items.{Closes, Ends}
use Rattle.cmark_grammar.specs.LeafReading.{Between, ReadsLeaf, entering, leaving}
use Rattle.cmark_grammar.specs.LeafText.{Leaf}
use Rattle.cmark_grammar.specs.Parts.{Nil}
use Rattle.cmark_grammar.specs.Questions.{AnyAnswer, Exchange, IsNext}
use Rattle.cmark_grammar.specs.Quotes.{Quote, quote_characters}
use Rattle.cmark_grammar.specs.Readers.{Reader}
use Rattle.cmark_grammar.specs.Spans.{Spans}
use Rattle.cmark_leaf_text.specs.Reads.{source_of}
use Rattle.cmark_leaf_text.specs.declared.leaf_text.LeafText.{LeafText}
use Rattle.cmark_inline_model.specs.BracketPass.{Pass, pass, closed_by}
use Rattle.cmark_inline_model.specs.LikeSlots.{IsLike}
use Rattle.cmark_inline_model.specs.RowParts.{text_slot}
use Rattle.cmark_inline_model.specs.RowPasses.{IsReached}
use Rattle.cmark_inline_model.specs.SlotRows as row
use Rattle.cmark_inline_model.specs.SlotRows.{marked, marks_by, quoted, slot_events}
use Rattle.cmark_inline_model.proofs.RowPasses.{reached-first, reached-closing, reached-end}
use Rattle.cmark_slots.specs.MarkedSlots.{places_of, siblings_from}
use Rattle.cmark_slots.specs.QuoteSlots.{characters_of}
use Rattle.cmark_inline.specs.Reached.{HasRead, bracket_place, runs_of, quotes_of}
use Rattle.cmark_slots.specs.SlotViews.{all_events, shown_slot, shown_slots}
use Rattle.cmark_slots.specs.declared.bracket.Bracket.{Bracket}
use Rattle.cmark_emphasis.specs.declared.run.PlacedRun.{PlacedRun}
use Rattle.cmark_slots.specs.declared.quote.PlacedQuote.{PlacedQuote}
use Rattle.cmark_slots.specs.declared.slot.Slot.{Slot}
use Rattle.cmark_inline.specs.declared.state.InlineState.{InlineState}
use Rattle.cmark_inline.proofs.LinkSteps.{siblings-counted, quotes-map}

module _ (leaf : LeafText) (reader : Reader) (read : Leaf) (place : ℕ → ℕ) (before : Between) where
  -- nothing was read yet
  pub first-read : (state : InlineState) → state.slots.items ≡ [] → state.delimiters.placed.items ≡ [] → state.quotes.placed.items ≡ [] → HasRead leaf reader read place before (pass (entering read before) Nil) [] state
  first-read state s d q =
      let to = pass (entering read before) Nil in
      subst (λ l. IsReached reader read before to [] (shown_slots leaf state.texts.items state.links.items l) (places_of state.delimiters.placed.items) (map (λ (x : PlacedQuote). x.slot) state.quotes.placed.items) (runs_of state.delimiters.placed.items)
      (quotes_of state.quotes.placed.items)) (sym s)
      (subst (λ l. IsReached reader read before to [] [] (places_of l) (map (λ (x : PlacedQuote). x.slot) state.quotes.placed.items) (runs_of l) (quotes_of state.quotes.placed.items)) (sym d)
      (subst (λ l. IsReached reader read before to [] [] [] (map (λ (x : PlacedQuote). x.slot) l) [] (quotes_of l)) (sym q) (reached-first reader read before)))

  module _ (p : Pass) (bs : List Bracket) (old new : InlineState) (h : HasRead leaf reader read place before p bs old) where
    -- a closing bracket that remains a text
    pub closing-read : (closer : items.Bracket) (next : State) (slot : Slot) → shown_slots leaf new.texts.items new.links.items old.slots.items ≡ shown_slots leaf old.texts.items old.links.items old.slots.items → token reader read p.state.at ≡ Closes closer
        → Comes AnyAnswer p.state.asked (decide reader read p.state closer) (record { result = StaysText; after = next }) → IsLike reader.source (shown_slot leaf new.texts.items new.links.items slot) (text_slot closer)
        → new.slots.items ≡ old.slots.items ++ (slot ∷ []) → new.delimiters.placed.items ≡ old.delimiters.placed.items → new.quotes.placed.items ≡ old.quotes.placed.items
        → HasRead leaf reader read place before (closed_by p closer (record { result = StaysText; after = next })) bs new
    closing-read closer next slot same t comes like slots_are runs_are quotes_are =
        let to = closed_by p closer (record { result = StaysText; after = next }) in
        let brackets = map (bracket_place place) bs in
        let shown = shown_slots leaf old.texts.items old.links.items old.slots.items in
        let r = reached-closing reader read before p brackets shown (places_of old.delimiters.placed.items) (map (λ (x : PlacedQuote). x.slot) old.quotes.placed.items) (runs_of old.delimiters.placed.items) (quotes_of old.quotes.placed.items) h closer next
        (shown_slot leaf new.texts.items new.links.items slot) t comes like in
        let now : shown ++ (shown_slot leaf new.texts.items new.links.items slot ∷ []) ≡ shown_slots leaf new.texts.items new.links.items new.slots.items =
        ap (λ l. l ++ (shown_slot leaf new.texts.items new.links.items slot ∷ [])) (sym same)
        ∙ sym (map-append (shown_slot leaf new.texts.items new.links.items) old.slots.items (slot ∷ [])) ∙ sym (ap (shown_slots leaf new.texts.items new.links.items) slots_are) in
        let all : List row.Slot → List PlacedRun → List PlacedQuote → Type 0 = λ s d q. IsReached reader read before to brackets s (places_of d) (map (λ (x : PlacedQuote). x.slot) q) (runs_of d) (quotes_of q) in
        subst (all (shown_slots leaf new.texts.items new.links.items new.slots.items) new.delimiters.placed.items) (sym quotes_are)
        (subst (λ l. all (shown_slots leaf new.texts.items new.links.items new.slots.items) l old.quotes.placed.items) (sym runs_are) (subst (λ l. all l old.delimiters.placed.items old.quotes.placed.items) now r))

    -- the whole leaf is read
    pub leaf-read : reader.source ≡ source_of leaf → token reader read p.state.at ≡ Ends → (pairs : List Pair) (spans : Spans) → IsEmphasis (siblings_from 0 old.delimiters.placed.items) pairs spans
        → shown_slots leaf new.texts.items new.links.items new.slots.items
        ≡ marked reader.options (places_of old.delimiters.placed.items) (marks_by (length (places_of old.delimiters.placed.items)) pairs)
        (quoted (map (λ (q : PlacedQuote). q.slot) old.quotes.placed.items) (characters_of old.quotes.placed.items) (shown_slots leaf old.texts.items old.links.items old.slots.items)) []
        → (all rest : List Exchange) → all ≡ p.state.asked ++ rest
        → ReadsLeaf reader (IsNext all) read before (all_events leaf new.texts.items new.links.items new.slots.items) (leaving p.state)
    leaf-read source t pairs spans e slots_are all rest a =
        let shown = shown_slots leaf old.texts.items old.links.items old.slots.items in
        let emphasis = subst (λ l. IsEmphasis l pairs spans) (sym (siblings-counted 0 old.delimiters.placed.items)) e in
        let r = reached-end reader read before p (map (bracket_place place) bs) shown (places_of old.delimiters.placed.items) (map (λ (x : PlacedQuote). x.slot) old.quotes.placed.items) (runs_of old.delimiters.placed.items) (quotes_of old.quotes.placed.items)
        h t pairs spans emphasis all rest a in
        let made : List Quote → List row.Slot = λ q.
        marked reader.options (places_of old.delimiters.placed.items) (marks_by (length (places_of old.delimiters.placed.items)) pairs) (quoted (map (λ (x : PlacedQuote). x.slot) old.quotes.placed.items) (quote_characters [] q) shown) [] in
        let events : slot_events reader.source (made (quotes_of old.quotes.placed.items)) [] ≡ all_events leaf new.texts.items new.links.items new.slots.items =
        ap (λ q. slot_events reader.source (made q) []) (sym (quotes-map old.quotes.placed.items))
        ∙ ap (λ l. slot_events reader.source l []) (sym slots_are)
        ∙ ap (λ s. slot_events s (shown_slots leaf new.texts.items new.links.items new.slots.items) []) source in
        subst (λ l. ReadsLeaf reader (IsNext all) read before l (leaving p.state)) events r
