-- After a closing bracket, the grammar's pass has read what the new state represents, with the questions that were asked.
use Rattle.std.specs.Prelude.{Option, drop, map}
use Rattle.std.proofs.Common.{◌≡◌, ℕ, suc, ◌+◌, ◌<◌, Bool, false, List, [], ◌∷◌, ◌++◌, length, get_or, Some, refl, sym, ap, ◌∙◌, subst, arith}
use Rattle.std.proofs.lemmas.List.{length-map}
use Rattle.cmark_grammar.specs.Answers.{Destination}
use Rattle.cmark_grammar.specs.BracketDecisions.{decide}
use Rattle.cmark_grammar.specs.BracketStates.{Opener, State, Result, StaysText, Forms, Outcome, Decision, Settled, Asks}
use Rattle.cmark_grammar.specs.InlineTokens.{bracket, longest, token}
use Rattle.cmark_grammar.specs.Items as items
use Rattle.cmark_grammar.specs.Items.{Closes}
use Rattle.cmark_grammar.specs.LeafReading.{Between}
use Rattle.cmark_grammar.specs.LeafText.{Leaf}
use Rattle.cmark_grammar.specs.Lines.{is_content}
use Rattle.cmark_grammar.specs.Questions.{Question, Exchange}
use Rattle.cmark_grammar.specs.Readers.{Reader}
use Rattle.cmark_references.specs.declared.definitions.RefDefs.{RefDefs}
use Rattle.cmark_references.specs.declared.footnotes.FootnoteDefs.{FootnoteDefs}
use Rattle.cmark_leaf_text.specs.Reads.{is_cell_of, text_of}
use Rattle.cmark_leaf_text.specs.declared.leaf_text.LeafText.{LeafText}
use Rattle.cmark_values.specs.declared.text.CowStr.{CowStr}
use Rattle.cmark_inline_model.specs.BracketPass.{Pass, closed_by, formed_by, resulting}
use Rattle.cmark_inline_model.specs.PartLists.{Cut, cut_at}
use Rattle.cmark_inline_model.specs.PlacedTokens.{placed, one_stretch, text_reader}
use Rattle.cmark_inline_model.specs.Progress.{Always, Fits, Keeps}
use Rattle.cmark_inline_model.specs.RowParts.{BracketPlace}
use Rattle.cmark_inline_model.proofs.DecisionLaws.{decide-fits, decide-recorded}
use Rattle.cmark_inline_model.proofs.RowParts.{cut-row}
use Rattle.cmark_inline.specs.BracketViews.{ArePlaced}
use Rattle.cmark_inline.specs.Closers as closers
use Rattle.cmark_inline.specs.Closers.{ShowsState, left_of}
use Rattle.cmark_slots.specs.Standing.{AreEnded}
use Rattle.cmark_inline.specs.CursorProgress.{HasReached}
use Rattle.cmark_inline.specs.LeastSteps.{AreCounted, Tally}
use Rattle.cmark_inline.specs.Decided.{AsksThis, ComesTo, ReadsSame}
use Rattle.cmark_slots.specs.MarkedSlots.{places_of}
use Rattle.cmark_inline.specs.Reached.{HasRead, ReadsPlaces, bracket_place, quotes_of, runs_of}
use Rattle.cmark_inline.specs.Resolved.{Answered}
use Rattle.cmark_inline.specs.Stands.{Flushes}
use Rattle.cmark_slots.specs.declared.bracket.Bracket.{Bracket}
use Rattle.cmark_inline.specs.declared.callback.BrokenLink.{BrokenLink}
use Rattle.cmark_slots.specs.declared.quote.PlacedQuote.{PlacedQuote}
use Rattle.cmark_inline.specs.declared.state.InlineState.{InlineState}
use Rattle.cmark_inline.specs.declared.step.Cursor.{Cursor}
use Rattle.cmark_inline.proofs.LeastCounted.{CutsRuns, closed-counted}
use Rattle.cmark_inline.proofs.MarkupTokens.{no-markup-by}
use Rattle.cmark_inline.proofs.PendingReads.{flushed-reached, stops-there, token-placed}
use Rattle.cmark_inline.proofs.PlainChains.{IsHeld}
use Rattle.cmark_inline.proofs.ReachedItems.{shows-on}
use Rattle.cmark_inline.proofs.SpecialSteps.{bracket-closes}

-- ## Questions
module _ {F : Type 0} (R : F → BrokenLink → Option (CowStr × CowStr) → F → Type 0) where
  -- one question more
  pub answered-more : (xs : List Exchange) (first mid last : F) (question : Question) (answer : Option Destination) → Answered R xs first mid → AsksThis R question answer mid last
      → Answered R (xs ++ (record { question = question; answer = answer } ∷ [])) first last
  answered-more [] first mid last question answer h k = (last, subst (λ z. AsksThis R question answer z last) h k, refl)
  answered-more (x ∷ xs) first mid last question answer h k = (h.0, h.1, answered-more xs h.0 mid last question answer h.2 k)

  asked-on : (d : Decision) (asked : List Exchange) (outcome : Outcome) (first mid last : F) → Keeps asked d → ComesTo R d outcome mid last → Answered R asked first mid → Answered R outcome.after.asked first last
  asked-on (Settled settled) asked outcome first mid last k c a =
      subst (λ l. Answered R l first last) (sym (ap (λ (o : Outcome). o.after.asked) c.0 ∙ k)) (subst (Answered R asked first) (sym c.1) a)
  asked-on (Asks question answered) asked outcome first mid last k c a =
      subst (λ l. Answered R l first last) (sym (ap (λ (o : Outcome). o.after.asked) c.2 ∙ k c.0)) (answered-more asked first mid last question c.0 a c.1)

  always-comes : (Holds : Outcome → Type 0) (d : Decision) (outcome : Outcome) (mid last : F) → Always Holds d → ComesTo R d outcome mid last → Holds outcome
  always-comes Holds (Settled settled) outcome mid last h c = subst Holds (sym c.0) h
  always-comes Holds (Asks question answered) outcome mid last h c = subst Holds (sym c.2) (h c.0)

-- ## The state afterwards
placed-count : (place : ℕ → ℕ) (at : ℕ) (os : List Opener) (bs : List Bracket) → ArePlaced place at os bs → length os ≡ length bs
placed-count place at [] [] h = refl
placed-count place at [] (b ∷ bs) h = absurd h
placed-count place at (o ∷ os) [] h = absurd h
placed-count place at (o ∷ os) (b ∷ bs) h = ap suc (placed-count place b.start os bs h.2)

pub closed-state : (p : Pass) (closer : items.Bracket) (result : Result) (next : State) (size : ℕ) → ((nearer : ℕ) → nearer < size → (cut : Cut) × (cut_at nearer p.here ≡ Some cut)) → Fits size (record { result = result; after = next }) → (resulting p closer result next).state ≡ next
closed-state p closer StaysText next size cuts fits = refl
closed-state p closer (Forms nearer formed) next size cuts fits = let c = cuts nearer (omega (arith, fits)) in ap (λ (x : Option Cut). (formed_by p closer formed next x).state) c.1

module _ (leaf : LeafText) (reader : Reader) (read : Leaf) (place : ℕ → ℕ) (r : ReadsPlaces leaf reader read place) where
  abbrev text : List ℕ
  text = text_of leaf

  abbrev cell : Bool
  cell = is_cell_of leaf

  pub closing-token : (at : ℕ) → at < length text → get_or text at 0 ≡ 93 → token reader read (place at) ≡ Closes (record { is_image = false; start = place at; end = suc (place at) })
  unfolding token
  closing-token at lt byte =
      let t = bracket-closes reader.options reader.lookup cell text at lt byte in
      token-placed leaf reader read place r at (omega (arith, lt)) (no-markup-by reader.options reader.lookup cell text at (Closes (bracket false at (at + 1))) t refl)
      ∙ ap (λ y. placed place (longest (text_reader reader.options reader.lookup text) (one_stretch cell text) y)) t
      ∙ ap (λ n. Closes (record { is_image = false; start = place at; end = n })) (ap place (let q : at + 1 ≡ suc at = omega arith in q) ∙ r.places.places.next at lt (ap is_content byte))

  module _ {F : Type 0} (R : F → BrokenLink → Option (CowStr × CowStr) → F → Type 0) (before : Between) (tally : Tally) (initial now later : F) (here : Cursor) (m : ℕ) (old new : InlineState) (next : Cursor) (h : HasReached R leaf reader read place before tally initial m old now)
      (held : IsHeld reader.options reader.lookup cell text m here.pending here.at) (lt : here.at < length text) (byte : get_or text here.at 0 ≡ 93) where
    pub closing-reached : (references : RefDefs) (others : FootnoteDefs) → ReadsSame reader.options reader.lookup references tally.notes leaf reader read place → Flushes here.pending here.at old
        → closers.Closes R reader.options reader.lookup references tally.notes others leaf text here.pending here.at old new next now later → AreEnded leaf old.slots.items
        → HasReached R leaf reader read place before (record tally { notes = others }) initial next.at new later × (next.pending ≡ next.at)
    closing-reached references noted same flush closes ended =
        let closer : items.Bracket = record { is_image = false; start = place here.at; end = suc (place here.at) } in
        let f = flushed-reached leaf reader read place r R before tally initial now m here.pending here.at old flush.flushed h held (omega (arith, lt))
        (stops-there reader.options reader.lookup cell text here.at (Closes (bracket false here.at (here.at + 1))) (bracket-closes reader.options reader.lookup cell text here.at lt byte) tt) flush.pushes flush.others in
        let others = flush.others in
        let shows : ShowsState reader.options.wikilinks text place here.at f.p.state f.bs old =
        shows-on reader.options.wikilinks text place here.at here.at f.p.state f.p.state f.bs flush.flushed old (omega arith)
        (record { examined = sym (ap (λ (s : InlineState). s.delimiters.examined) others); brackets = sym (ap (λ (s : InlineState). s.brackets) others); doubled = sym (ap (λ (s : InlineState). s.doubled) others); expansion_left = sym (ap (λ (s : InlineState). s.expansion_left) others); label = sym (ap (λ (s : InlineState). s.label_close) others) })
        refl refl refl f.shows in
        let c = closes reader read place closer f.p.state f.bs same (record { within = lt; byte = byte; start = refl; end = refl }) shows in
        let t : token reader read f.p.state.at ≡ Closes closer = ap (token reader read) f.at_is ∙ closing-token here.at lt byte in
        let reads : HasRead leaf reader read place before (closed_by f.p closer c.outcome) (left_of c.outcome.result f.bs) new =
        c.reads ended r t before f.p flush.flushed refl flush.pushes flush.others f.has_read in
        let brackets : List BracketPlace = map (bracket_place place) f.bs in
        let count : length f.p.state.openers ≡ length brackets = placed-count place here.at f.p.state.openers f.bs shows.openers.placed ∙ sym (length-map f.bs (bracket_place place)) in
        let cuts : (nearer : ℕ) → nearer < length f.p.state.openers → (cut : Cut) × (cut_at nearer f.p.here ≡ Some cut) = λ nearer low.
        (let k = cut-row reader.options nearer brackets f.p.here f.has_read.row (places_of flush.flushed.delimiters.placed.items) (map (λ (x : PlacedQuote). x.slot) flush.flushed.quotes.placed.items)
        (runs_of flush.flushed.delimiters.placed.items) (quotes_of flush.flushed.quotes.placed.items) (omega (arith, low, count)) f.has_read.is_row in (k.cut, k.cut_is)) in
        let runs-cut : (nearer : ℕ) → nearer < length f.p.state.openers → CutsRuns reader.options place nearer f.bs f.p.here old.delimiters.placed.items = λ nearer low.
        (let k = cut-row reader.options nearer brackets f.p.here f.has_read.row (places_of flush.flushed.delimiters.placed.items) (map (λ (x : PlacedQuote). x.slot) flush.flushed.quotes.placed.items)
        (runs_of flush.flushed.delimiters.placed.items) (quotes_of flush.flushed.quotes.placed.items) (omega (arith, low, count)) f.has_read.is_row in
        record { cut = k.cut; cut_is = k.cut_is; place_at = k.place; place_is = k.place_is; runs_after = k.runs_after ∙ ap (λ (s : InlineState). drop k.place.runs (runs_of s.delimiters.placed.items)) others }) in
        let fits : Fits (length f.p.state.openers) c.outcome = always-comes R (Fits (length f.p.state.openers)) (decide reader read f.p.state closer) c.outcome now later (decide-fits reader read f.p.state closer) c.comes in
        let state_is : (closed_by f.p closer c.outcome).state ≡ c.outcome.after = closed-state f.p closer c.outcome.result c.outcome.after (length f.p.state.openers) cuts fits in (
          record {
            p = closed_by f.p closer c.outcome;
            bs = left_of c.outcome.result f.bs;
            has_read = reads;
            at_is = ap (λ (s : State). s.at) state_is ∙ c.at;
            shows = subst (λ s. ShowsState reader.options.wikilinks text place next.at s (left_of c.outcome.result f.bs) new) (sym state_is) c.shows;
            answered = subst (λ (s : State). Answered R s.asked initial later) (sym state_is)
                (asked-on R (decide reader read f.p.state closer) f.p.state.asked c.outcome initial now later ((decide-recorded reader read).keeps f.p.state closer) c.comes f.answered);
            counted = closed-counted reader place f.p closer c.outcome.result c.outcome.after f.bs old new tally noted (length f.p.state.openers) runs-cut fits
                (subst (λ (n : ℕ). AreCounted reader f.p.here tally n) (ap (λ (s : InlineState). s.delimiters.examined) others) f.counted) c.examines c.uses;
          },
          c.pending,
        )
