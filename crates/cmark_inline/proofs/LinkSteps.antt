-- With a link or an image, the state represents one step more of the pass.
use Rattle.std.specs.Prelude.{map, drop, take, Some}
use Rattle.std.proofs.Common.{◌≡◌, ℕ, zero, suc, ◌+◌, List, [], ◌∷◌, ◌++◌, length, refl, sym, ap, ◌∙◌, subst, arith}
use Rattle.std.proofs.lemmas.List.{drop-map, take-map}
use Rattle.cmark_grammar.specs.BracketDecisions.{decide}
use Rattle.cmark_grammar.specs.BracketReading.{Comes}
use Rattle.cmark_grammar.specs.BracketStates.{State, Forms}
use Rattle.cmark_grammar.specs.Emphasis.{Pair, Run, Delimiter, IsEmphasis}
use Rattle.cmark_grammar.specs.InlineTokens.{token}
use Rattle.cmark_grammar.specs.Items as items
use Rattle.cmark_grammar.specs.Items.{Closes}
use Rattle.cmark_grammar.specs.LeafReading.{Between}
use Rattle.cmark_grammar.specs.LeafText.{Leaf}
use Rattle.cmark_grammar.specs.Parts.{Nil, Form, Formed, Linking, Target}
use Rattle.cmark_grammar.specs.Questions.{AnyAnswer}
use Rattle.cmark_grammar.specs.Quotes.{Quote, quote_characters}
use Rattle.cmark_grammar.specs.Readers.{Reader}
use Rattle.cmark_grammar.specs.Siblings.{quotes_of as grammar_quotes}
use Rattle.cmark_inline_model.specs.SiblingsModel.{siblings_of}
use Rattle.cmark_grammar.specs.Spans.{Spans}
use Rattle.cmark_emphasis.specs.Shown.{shown_quote, shown_whole}
use Rattle.cmark_leaf_text.specs.declared.leaf_text.LeafText.{LeafText}
use Rattle.cmark_inline_model.specs.BracketPass.{Pass, closed_by}
use Rattle.cmark_inline_model.specs.PartLists.{Cut, cut_at}
use Rattle.cmark_inline_model.specs.RowParts.{BracketPlace, bytes_in, counted, runs_in}
use Rattle.cmark_inline_model.specs.RowPasses.{IsReached, StandsFor, linked_slots}
use Rattle.cmark_inline_model.specs.SlotRows as row
use Rattle.cmark_inline_model.specs.SlotRows.{marked, marks_by, quoted, run_places}
use Rattle.cmark_inline_model.proofs.RowPasses.{reached-link, reached-formed}
use Rattle.cmark_slots.specs.MarkedSlots.{places_of, siblings_from}
use Rattle.cmark_slots.specs.QuoteSlots.{characters_of}
use Rattle.cmark_inline.specs.Reached.{HasRead, bracket_place, runs_of, quotes_of}
use Rattle.cmark_slots.specs.SlotViews.{shown_slots}
use Rattle.cmark_slots.specs.declared.bracket.Bracket.{Bracket}
use Rattle.cmark_emphasis.specs.declared.run.PlacedRun.{PlacedRun}
use Rattle.cmark_slots.specs.declared.quote.PlacedQuote.{PlacedQuote}
use Rattle.cmark_inline.specs.declared.state.InlineState.{InlineState}

-- ## Lists of runs and quotes, cut

drop-places : (n at size : ℕ) (l : List ℕ) → drop (size + n) (run_places at size l) ≡ drop n l
drop-places n at zero l = ap (λ k. drop k l) (let q : 0 + n ≡ n = omega arith in q)
drop-places n at (suc size) l = ap (λ k. drop k (run_places at (suc size) l)) (let q : suc size + n ≡ suc (size + n) = omega arith in q) ∙ drop-places n (suc at) size l

take-places : (n at size : ℕ) (l : List ℕ) → take (size + n) (run_places at size l) ≡ run_places at size (take n l)
take-places n at zero l = ap (λ k. take k l) (let q : 0 + n ≡ n = omega arith in q)
take-places n at (suc size) l =
    ap (λ k. take k (run_places at (suc size) l)) (let q : suc size + n ≡ suc (size + n) = omega arith in q) ∙ ap (λ m. at ∷ m) (take-places n (suc at) size l)

pub bytes-following : (n : ℕ) (placed : List PlacedRun) → drop (bytes_in (take n (runs_of placed))) (places_of placed) ≡ places_of (drop n placed)
bytes-following zero placed = refl
bytes-following (suc n) [] = refl
bytes-following (suc n) (x ∷ placed) = drop-places (bytes_in (take n (runs_of placed))) x.slot x.run_length (places_of placed) ∙ bytes-following n placed

pub bytes-front : (n : ℕ) (placed : List PlacedRun) → take (bytes_in (take n (runs_of placed))) (places_of placed) ≡ places_of (take n placed)
bytes-front zero placed = refl
bytes-front (suc n) [] = refl
bytes-front (suc n) (x ∷ placed) = take-places (bytes_in (take n (runs_of placed))) x.slot x.run_length (places_of placed) ∙ ap (run_places x.slot x.run_length) (bytes-front n placed)

pub siblings-counted : (at : ℕ) (placed : List PlacedRun) → counted at (runs_of placed) ≡ siblings_from at placed
siblings-counted at [] = refl
siblings-counted at (x ∷ placed) =
    ap (λ l. Delimiter (record { delimiter = x.delimiter; run_length = x.run_length; at = at; left = x.run_length; opens = x.opens; closes = x.closes }) ∷ l) (siblings-counted (at + x.run_length) placed)

pub quotes-map : (placed : List PlacedQuote) → map shown_quote (map (λ (p : PlacedQuote). p.quote) placed) ≡ quotes_of placed
quotes-map [] = refl
quotes-map (x ∷ placed) = ap (λ l. shown_quote x.quote ∷ l) (quotes-map placed)

-- ## The step
module _ (leaf : LeafText) (reader : Reader) (read : Leaf) (place : ℕ → ℕ) (before : Between) (p : Pass) (bs : List Bracket) (old new : InlineState) (h : HasRead leaf reader read place before p bs old) where
  abbrev runs : List PlacedRun
  runs = old.delimiters.placed.items

  abbrev quotes : List PlacedQuote
  quotes = old.quotes.placed.items

  abbrev slot_places : List PlacedQuote → List ℕ
  slot_places l = map (λ (q : PlacedQuote). q.slot) l

  pub link-read : (b : Bracket) (closer : items.Bracket) (nearer : ℕ) (target : Target) (next : State) → drop nearer bs ≡ b ∷ drop (suc nearer) bs → token reader read p.state.at ≡ Closes closer
      → Comes AnyAnswer p.state.asked (decide reader read p.state closer) (record { result = Forms nearer (Linking target); after = next })
      → (pairs : List Pair) (spans : Spans) → IsEmphasis (siblings_from 0 (drop b.runs old.delimiters.placed.items)) pairs spans
      → shown_slots leaf new.texts.items new.links.items new.slots.items
      ≡ linked_slots (bracket_place place b) target
      (marked reader.options (places_of (drop b.runs old.delimiters.placed.items)) (marks_by (length (places_of (drop b.runs old.delimiters.placed.items))) pairs)
      (quoted (map (λ (q : PlacedQuote). q.slot) (drop b.quotes old.quotes.placed.items)) (characters_of (drop b.quotes old.quotes.placed.items)) (shown_slots leaf old.texts.items old.links.items old.slots.items)) [])
      → new.delimiters.placed.items ≡ take b.runs old.delimiters.placed.items → new.quotes.placed.items ≡ take b.quotes old.quotes.placed.items
      → HasRead leaf reader read place before (closed_by p closer (record { result = Forms nearer (Linking target); after = next })) (drop (suc nearer) bs) new
  link-read b closer nearer target next there t comes pairs spans e slots_are runs_are quotes_are =
      let bp = bracket_place place b in
      let brackets = map (bracket_place place) bs in
      let to = closed_by p closer (record { result = Forms nearer (Linking target); after = next }) in
      let shown = shown_slots leaf old.texts.items old.links.items old.slots.items in
      let bytes = places_of runs in
      let n = bytes_in (take b.runs (runs_of runs)) in
      let cut : drop nearer brackets ≡ bp ∷ drop (suc nearer) brackets = drop-map (bracket_place place) nearer bs ∙ ap (map (bracket_place place)) there ∙ ap (λ l. bp ∷ l) (sym (drop-map (bracket_place place) (suc nearer) bs)) in
      let emphasis : IsEmphasis (counted 0 (drop b.runs (runs_of runs))) pairs spans =
      subst (λ l. IsEmphasis l pairs spans) (sym (ap (counted 0) (drop-map shown_whole b.runs runs) ∙ siblings-counted 0 (drop b.runs runs))) e in
      let r = reached-link reader read before p brackets shown bytes (slot_places quotes) (runs_of runs) (quotes_of quotes) h closer nearer target next bp cut t comes pairs spans emphasis in
      let made : List ℕ → List ℕ → List Quote → List row.Slot = λ bytes places quotes. marked reader.options bytes (marks_by (length bytes) pairs) (quoted places (quote_characters [] quotes) shown) [] in
      let dressed : made (drop n bytes) (drop b.quotes (slot_places quotes)) (drop b.quotes (quotes_of quotes)) ≡ made (places_of (drop b.runs runs)) (slot_places (drop b.quotes quotes)) (map shown_quote (map (λ (x : PlacedQuote). x.quote) (drop b.quotes quotes))) =
      ap (λ l. made l (drop b.quotes (slot_places quotes)) (drop b.quotes (quotes_of quotes))) (bytes-following b.runs runs)
      ∙ ap (λ l. made (places_of (drop b.runs runs)) l (drop b.quotes (quotes_of quotes))) (drop-map (λ (x : PlacedQuote). x.slot) b.quotes quotes)
      ∙ ap (λ l. made (places_of (drop b.runs runs)) (slot_places (drop b.quotes quotes)) l) (drop-map (λ (x : PlacedQuote). shown_quote x.quote) b.quotes quotes ∙ sym (quotes-map (drop b.quotes quotes))) in
      let slots : linked_slots bp target (made (drop n bytes) (drop b.quotes (slot_places quotes)) (drop b.quotes (quotes_of quotes))) ≡ shown_slots leaf new.texts.items new.links.items new.slots.items =
      ap (linked_slots bp target) dressed ∙ sym slots_are in
      let now = shown_slots leaf new.texts.items new.links.items new.slots.items in
      let all : List BracketPlace → List row.Slot → List ℕ → List ℕ → List Run → List Quote → Type 0 = λ b s c d x y. IsReached reader read before to b s c d x y in
      subst (λ l. all (map (bracket_place place) (drop (suc nearer) bs)) now (places_of new.delimiters.placed.items) (slot_places l) (runs_of new.delimiters.placed.items) (quotes_of l)) (sym quotes_are)
      (subst (λ l. all (map (bracket_place place) (drop (suc nearer) bs)) now (places_of l) (slot_places (take b.quotes quotes)) (runs_of l) (quotes_of (take b.quotes quotes))) (sym runs_are)
      (subst (λ l. all (map (bracket_place place) (drop (suc nearer) bs)) now (places_of (take b.runs runs)) (slot_places (take b.quotes quotes)) (runs_of (take b.runs runs)) l) (take-map (λ (x : PlacedQuote). shown_quote x.quote) b.quotes quotes)
      (subst (λ l. all (map (bracket_place place) (drop (suc nearer) bs)) now (places_of (take b.runs runs)) (slot_places (take b.quotes quotes)) l (take b.quotes (quotes_of quotes))) (take-map shown_whole b.runs runs)
      (subst (λ l. all (map (bracket_place place) (drop (suc nearer) bs)) now (places_of (take b.runs runs)) l (take b.runs (runs_of runs)) (take b.quotes (quotes_of quotes))) (take-map (λ (x : PlacedQuote). x.slot) b.quotes quotes)
      (subst (λ l. all (map (bracket_place place) (drop (suc nearer) bs)) now l (take b.quotes (slot_places quotes)) (take b.runs (runs_of runs)) (take b.quotes (quotes_of quotes))) (bytes-front b.runs runs)
      (subst (λ l. all (map (bracket_place place) (drop (suc nearer) bs)) l (take n bytes) (take b.quotes (slot_places quotes)) (take b.runs (runs_of runs)) (take b.quotes (quotes_of quotes))) slots
      (subst (λ l. all l (linked_slots bp target (made (drop n bytes) (drop b.quotes (slot_places quotes)) (drop b.quotes (quotes_of quotes)))) (take n bytes) (take b.quotes (slot_places quotes)) (take b.runs (runs_of runs)) (take b.quotes (quotes_of quotes)))
      (drop-map (bracket_place place) (suc nearer) bs) r)))))))

  -- an element that does not show its inside replaces the opening bracket's slot and all later ones
  pub formed-read : (b : Bracket) (closer : items.Bracket) (nearer : ℕ) (what : Formed) (next : State) → drop nearer bs ≡ b ∷ drop (suc nearer) bs → token reader read p.state.at ≡ Closes closer
      → Comes AnyAnswer p.state.asked (decide reader read p.state closer) (record { result = Forms nearer what; after = next }) → (more : List row.Slot)
      → ((cut : Cut) → cut_at nearer p.here ≡ Some cut → cut.opener ≡ (bracket_place place b).bracket → StandsFor reader b.slot (Form cut.opener cut.inside closer what Nil) more [] [])
      → ((cut : Cut) → (runs_in (siblings_of reader.options (Form cut.opener cut.inside closer what Nil)) ≡ []) × (grammar_quotes (siblings_of reader.options (Form cut.opener cut.inside closer what Nil)) ≡ []))
      → shown_slots leaf new.texts.items new.links.items new.slots.items ≡ take b.slot (shown_slots leaf old.texts.items old.links.items old.slots.items) ++ more
      → new.delimiters.placed.items ≡ take b.runs old.delimiters.placed.items → new.quotes.placed.items ≡ take b.quotes old.quotes.placed.items
      → HasRead leaf reader read place before (closed_by p closer (record { result = Forms nearer what; after = next })) (drop (suc nearer) bs) new
  formed-read b closer nearer what next there t comes more stands none slots_are runs_are quotes_are =
      let bp = bracket_place place b in
      let brackets = map (bracket_place place) bs in
      let to = closed_by p closer (record { result = Forms nearer what; after = next }) in
      let shown = shown_slots leaf old.texts.items old.links.items old.slots.items in
      let bytes = places_of runs in
      let n = bytes_in (take b.runs (runs_of runs)) in
      let cut : drop nearer brackets ≡ bp ∷ drop (suc nearer) brackets = drop-map (bracket_place place) nearer bs ∙ ap (map (bracket_place place)) there ∙ ap (λ l. bp ∷ l) (sym (drop-map (bracket_place place) (suc nearer) bs)) in
      let r = reached-formed reader read before p brackets shown bytes (slot_places quotes) (runs_of runs) (quotes_of quotes) h closer nearer what next bp cut t comes more stands none in
      let now = shown_slots leaf new.texts.items new.links.items new.slots.items in
      let all : List BracketPlace → List row.Slot → List ℕ → List ℕ → List Run → List Quote → Type 0 = λ b s c d x y. IsReached reader read before to b s c d x y in
      let left = map (bracket_place place) (drop (suc nearer) bs) in
      subst (λ l. all left now (places_of new.delimiters.placed.items) (slot_places l) (runs_of new.delimiters.placed.items) (quotes_of l)) (sym quotes_are)
      (subst (λ l. all left now (places_of l) (slot_places (take b.quotes quotes)) (runs_of l) (quotes_of (take b.quotes quotes))) (sym runs_are)
      (subst (λ l. all left now (places_of (take b.runs runs)) (slot_places (take b.quotes quotes)) (runs_of (take b.runs runs)) l) (take-map (λ (x : PlacedQuote). shown_quote x.quote) b.quotes quotes)
      (subst (λ l. all left now (places_of (take b.runs runs)) (slot_places (take b.quotes quotes)) l (take b.quotes (quotes_of quotes))) (take-map shown_whole b.runs runs)
      (subst (λ l. all left now (places_of (take b.runs runs)) l (take b.runs (runs_of runs)) (take b.quotes (quotes_of quotes))) (take-map (λ (x : PlacedQuote). x.slot) b.quotes quotes)
      (subst (λ l. all left now l (take b.quotes (slot_places quotes)) (take b.runs (runs_of runs)) (take b.quotes (quotes_of quotes))) (bytes-front b.runs runs)
      (subst (λ l. all left l (take n bytes) (take b.quotes (slot_places quotes)) (take b.runs (runs_of runs)) (take b.quotes (quotes_of quotes))) (sym slots_are)
      (subst (λ l. all l (take b.slot shown ++ more) (take n bytes) (take b.quotes (slot_places quotes)) (take b.runs (runs_of runs)) (take b.quotes (quotes_of quotes))) (drop-map (bracket_place place) (suc nearer) bs) r)))))))
