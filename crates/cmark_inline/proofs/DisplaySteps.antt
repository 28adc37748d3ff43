-- With a wikilink that has a display text, the state represents one step more of the pass.
use Rattle.std.specs.Prelude.{map, drop, take, get_or, Some}
use Rattle.std.proofs.Common.{◌≡◌, ℕ, zero, suc, ◌+◌, ◌<◌, ◌≤◌, List, [], ◌∷◌, length, refl, sym, ap, ◌∙◌, subst, arith}
use Rattle.std.proofs.lemmas.List.{drop-map, take-map, get_or-map, length-map}
use Rattle.cmark_grammar.specs.BracketDecisions.{decide}
use Rattle.cmark_grammar.specs.BracketReading.{Comes}
use Rattle.cmark_grammar.specs.BracketStates.{State, Forms}
use Rattle.cmark_grammar.specs.Emphasis.{Pair, Run, IsEmphasis}
use Rattle.cmark_grammar.specs.InlineTokens.{token}
use Rattle.cmark_grammar.specs.Items as items
use Rattle.cmark_grammar.specs.Items.{Closes}
use Rattle.cmark_grammar.specs.LeafReading.{Between}
use Rattle.cmark_grammar.specs.LeafText.{Leaf, InTurn}
use Rattle.cmark_grammar.specs.Parts.{Wiki}
use Rattle.cmark_grammar.specs.Questions.{AnyAnswer}
use Rattle.cmark_grammar.specs.Quotes.{Quote, quote_characters}
use Rattle.cmark_grammar.specs.Readers.{Reader}
use Rattle.cmark_grammar.specs.Spans.{Spans}
use Rattle.cmark_emphasis.specs.Shown.{shown_quote, shown_whole}
use Rattle.cmark_leaf_text.specs.declared.leaf_text.LeafText.{LeafText}
use Rattle.cmark_inline_model.specs.BracketPass.{Pass, closed_by}
use Rattle.cmark_inline_model.specs.CutRanges.{IsAfterPipe}
use Rattle.cmark_inline_model.specs.Displays.{IsCutThere, LeavesQuotes, LeavesRuns, ShowsLike, display_target}
use Rattle.cmark_inline_model.specs.LeafModel.{HaveLineEnds}
use Rattle.cmark_inline_model.specs.LikeSlots.{AreLike}
use Rattle.cmark_inline_model.specs.RowParts.{BracketPlace, bytes_in, counted}
use Rattle.cmark_inline_model.specs.RowPasses.{IsReached, linked_slots}
use Rattle.cmark_inline_model.specs.SlotRows as row
use Rattle.cmark_inline_model.specs.SlotRows.{marked, marks_by, quoted, run_places}
use Rattle.cmark_inline_model.proofs.DisplayPasses.{display-reached}
use Rattle.cmark_inline.specs.Hiding.{AreLeft}
use Rattle.cmark_slots.specs.MarkedSlots.{places_of, siblings_from}
use Rattle.cmark_inline.specs.Reached.{HasRead, bracket_place, runs_of, quotes_of}
use Rattle.cmark_slots.specs.SlotViews.{shown_slots}
use Rattle.cmark_slots.specs.Standing.{HaveSizes}
use Rattle.cmark_inline.specs.FormedSlots.{dressed_after}
use Rattle.cmark_slots.specs.declared.bracket.Bracket.{Bracket}
use Rattle.cmark_emphasis.specs.declared.run.PlacedRun.{PlacedRun}
use Rattle.cmark_slots.specs.declared.quote.PlacedQuote.{PlacedQuote}
use Rattle.cmark_inline.specs.declared.state.InlineState.{InlineState}
use Rattle.cmark_inline.proofs.LinkSteps.{bytes-following, bytes-front, siblings-counted, quotes-map}
use Rattle.cmark_slots.proofs.Placing.{no-quote, no-run}

-- ## The first slots of runs

get-places : (n at size : ℕ) (l : List ℕ) → get_or (run_places at size l) (size + n) 0 ≡ get_or l n 0
get-places n at zero l = ap (λ k. get_or l k 0) (let q : 0 + n ≡ n = omega arith in q)
get-places n at (suc size) l = ap (λ k. get_or (run_places at (suc size) l) k 0) (let q : suc size + n ≡ suc (size + n) = omega arith in q) ∙ get-places n (suc at) size l

first-place : (at size : ℕ) (l : List ℕ) → 0 < size → get_or (run_places at size l) 0 0 ≡ at
first-place at zero l lt = absurd (omega (arith, lt))
first-place at (suc size) l lt = refl

run-start : (k : ℕ) (placed : List PlacedRun) (d : PlacedRun) → HaveSizes placed → k < length placed → get_or (places_of placed) (bytes_in (take k (runs_of placed))) 0 ≡ (get_or placed k d).slot
run-start k [] d sizes lt = absurd (omega (arith, lt))
run-start zero (x ∷ placed) d sizes lt = first-place x.slot x.run_length (places_of placed) (sizes 0 d lt)
run-start (suc k) (x ∷ placed) d sizes lt =
    get-places (bytes_in (take k (runs_of placed))) x.slot x.run_length (places_of placed) ∙ run-start k placed d (λ j e l. sizes (suc j) e (let q : suc j < suc (length placed) = omega (arith, l) in q)) (omega (arith, lt))

runs-left : (at : ℕ) (runs : List PlacedRun) (quotes : List PlacedQuote) (b left : Bracket) → HaveSizes runs → AreLeft at runs quotes b left → LeavesRuns b.runs left.runs at (runs_of runs) (places_of runs)
runs-left at runs quotes b left sizes h =
    let n = length-map runs shown_whole in
    record {
      order = h.runs_order;
      before = λ k a c lt. subst (λ x. x < at) (sym (run-start k runs no-run sizes (omega (arith, lt, n)))) (h.runs_before k no-run a c);
      following = λ lt. subst (λ x. at ≤ x) (sym (run-start left.runs runs no-run sizes (omega (arith, lt, n)))) (h.runs_after no-run (omega (arith, lt, n)));
    }

quotes-left : (at : ℕ) (runs : List PlacedRun) (quotes : List PlacedQuote) (b left : Bracket) → AreLeft at runs quotes b left → LeavesQuotes b.quotes left.quotes at (map (λ (q : PlacedQuote). q.slot) quotes)
quotes-left at runs quotes b left h =
    let n = length-map quotes (λ (x : PlacedQuote). x.slot) in
    record {
      order = h.quotes_order;
      before = λ k a c lt. subst (λ x. x < at) (sym (get_or-map (λ (x : PlacedQuote). x.slot) quotes k no-quote 0 (omega (arith, lt, n)))) (h.quotes_before k no-quote a c);
      following = λ lt. subst (λ x. at ≤ x) (sym (get_or-map (λ (x : PlacedQuote). x.slot) quotes left.quotes no-quote 0 (omega (arith, lt, n)))) (h.quotes_after no-quote (omega (arith, lt, n)));
    }

-- ## The step

module _ (leaf : LeafText) (reader : Reader) (read : Leaf) (place : ℕ → ℕ) (before : Between) (p : Pass) (bs : List Bracket) (old new : InlineState) (h : HasRead leaf reader read place before p bs old) where
  abbrev runs : List PlacedRun
  runs = old.delimiters.placed.items

  abbrev quotes : List PlacedQuote
  quotes = old.quotes.placed.items

  abbrev slot_places : List PlacedQuote → List ℕ
  slot_places l = map (λ (q : PlacedQuote). q.slot) l

  pub display-read : InTurn 0 read.stretches (length reader.source) → HaveLineEnds reader.source read.stretches
      → (b : Bracket) (closer : items.Bracket) (nearer : ℕ) (name : List ℕ) (display end : ℕ) (next : State) → drop nearer bs ≡ b ∷ drop (suc nearer) bs → token reader read p.state.at ≡ Closes closer
      → Comes AnyAnswer p.state.asked (decide reader read p.state closer) (record { result = Forms nearer (Wiki name (Some display) end); after = next })
      → HaveSizes old.delimiters.placed.items → (left : Bracket) (at : ℕ) (now : List row.Slot) → AreLeft at old.delimiters.placed.items old.quotes.placed.items b left
      → ((slots : List row.Slot) → AreLike reader.source (shown_slots leaf old.texts.items old.links.items old.slots.items) slots → IsCutThere reader.source (suc b.slot) display slots → IsAfterPipe reader.options reader.source display → display ≤ closer.start
      → ShowsLike reader.source (suc b.slot) display closer.start at slots now)
      → (pairs : List Pair) (spans : Spans) → IsEmphasis (siblings_from 0 (drop left.runs old.delimiters.placed.items)) pairs spans
      → shown_slots leaf new.texts.items new.links.items new.slots.items
      ≡ linked_slots (bracket_place place b) (display_target name end) (dressed_after reader.options left pairs old.delimiters.placed.items old.quotes.placed.items now)
      → new.delimiters.placed.items ≡ take b.runs old.delimiters.placed.items → new.quotes.placed.items ≡ take b.quotes old.quotes.placed.items
      → HasRead leaf reader read place before (closed_by p closer (record { result = Forms nearer (Wiki name (Some display) end); after = next })) (drop (suc nearer) bs) new
  display-read turn lines b closer nearer name display end next there t comes sizes left at now are shows pairs spans e slots_are runs_are quotes_are =
      let bp = bracket_place place b in
      let target = display_target name end in
      let brackets = map (bracket_place place) bs in
      let to = closed_by p closer (record { result = Forms nearer (Wiki name (Some display) end); after = next }) in
      let shown = shown_slots leaf old.texts.items old.links.items old.slots.items in
      let bytes = places_of runs in
      let n = bytes_in (take b.runs (runs_of runs)) in
      let m = bytes_in (take left.runs (runs_of runs)) in
      let cut : drop nearer brackets ≡ bp ∷ drop (suc nearer) brackets = drop-map (bracket_place place) nearer bs ∙ ap (map (bracket_place place)) there ∙ ap (λ l. bp ∷ l) (sym (drop-map (bracket_place place) (suc nearer) bs)) in
      let emphasis : IsEmphasis (counted 0 (drop left.runs (runs_of runs))) pairs spans =
      subst (λ l. IsEmphasis l pairs spans) (sym (ap (counted 0) (drop-map shown_whole left.runs runs) ∙ siblings-counted 0 (drop left.runs runs))) e in
      let r = display-reached reader read before turn lines p brackets shown bytes (slot_places quotes) (runs_of runs) (quotes_of quotes) h closer nearer name display end next bp cut t comes left.runs left.quotes at now
      (runs-left at runs quotes b left sizes are) (quotes-left at runs quotes b left are) shows pairs spans emphasis in
      let made : List ℕ → List ℕ → List Quote → List row.Slot = λ bytes places quotes. marked reader.options bytes (marks_by (length bytes) pairs) (quoted places (quote_characters [] quotes) now) [] in
      let dressed : made (drop m bytes) (drop left.quotes (slot_places quotes)) (drop left.quotes (quotes_of quotes)) ≡ made (places_of (drop left.runs runs)) (slot_places (drop left.quotes quotes)) (map shown_quote (map (λ (x : PlacedQuote). x.quote) (drop left.quotes quotes))) =
      ap (λ l. made l (drop left.quotes (slot_places quotes)) (drop left.quotes (quotes_of quotes))) (bytes-following left.runs runs)
      ∙ ap (λ l. made (places_of (drop left.runs runs)) l (drop left.quotes (quotes_of quotes))) (drop-map (λ (x : PlacedQuote). x.slot) left.quotes quotes)
      ∙ ap (λ l. made (places_of (drop left.runs runs)) (slot_places (drop left.quotes quotes)) l) (drop-map (λ (x : PlacedQuote). shown_quote x.quote) left.quotes quotes ∙ sym (quotes-map (drop left.quotes quotes))) in
      let slots : linked_slots bp target (made (drop m bytes) (drop left.quotes (slot_places quotes)) (drop left.quotes (quotes_of quotes))) ≡ shown_slots leaf new.texts.items new.links.items new.slots.items =
      ap (linked_slots bp target) dressed ∙ sym slots_are in
      let after = shown_slots leaf new.texts.items new.links.items new.slots.items in
      let all : List BracketPlace → List row.Slot → List ℕ → List ℕ → List Run → List Quote → Type 0 = λ b s c d x y. IsReached reader read before to b s c d x y in
      subst (λ l. all (map (bracket_place place) (drop (suc nearer) bs)) after (places_of new.delimiters.placed.items) (slot_places l) (runs_of new.delimiters.placed.items) (quotes_of l)) (sym quotes_are)
      (subst (λ l. all (map (bracket_place place) (drop (suc nearer) bs)) after (places_of l) (slot_places (take b.quotes quotes)) (runs_of l) (quotes_of (take b.quotes quotes))) (sym runs_are)
      (subst (λ l. all (map (bracket_place place) (drop (suc nearer) bs)) after (places_of (take b.runs runs)) (slot_places (take b.quotes quotes)) (runs_of (take b.runs runs)) l) (take-map (λ (x : PlacedQuote). shown_quote x.quote) b.quotes quotes)
      (subst (λ l. all (map (bracket_place place) (drop (suc nearer) bs)) after (places_of (take b.runs runs)) (slot_places (take b.quotes quotes)) l (take b.quotes (quotes_of quotes))) (take-map shown_whole b.runs runs)
      (subst (λ l. all (map (bracket_place place) (drop (suc nearer) bs)) after (places_of (take b.runs runs)) l (take b.runs (runs_of runs)) (take b.quotes (quotes_of quotes))) (take-map (λ (x : PlacedQuote). x.slot) b.quotes quotes)
      (subst (λ l. all (map (bracket_place place) (drop (suc nearer) bs)) after l (take b.quotes (slot_places quotes)) (take b.runs (runs_of runs)) (take b.quotes (quotes_of quotes))) (bytes-front b.runs runs)
      (subst (λ l. all (map (bracket_place place) (drop (suc nearer) bs)) l (take n bytes) (take b.quotes (slot_places quotes)) (take b.runs (runs_of runs)) (take b.quotes (quotes_of quotes))) slots
      (subst (λ l. all l (linked_slots bp target (made (drop m bytes) (drop left.quotes (slot_places quotes)) (drop left.quotes (quotes_of quotes)))) (take n bytes) (take b.quotes (slot_places quotes)) (take b.runs (runs_of runs)) (take b.quotes (quotes_of quotes)))
      (drop-map (bracket_place place) (suc nearer) bs) r)))))))
