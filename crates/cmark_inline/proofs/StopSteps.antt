-- If memory is refused, the grammar asks the questions that were asked in the leaf up to there.
use Rattle.std.specs.Prelude.{Option, if◌then◌else◌}
use Rattle.std.proofs.Common.{◌≡◌, inl, inr, ℕ, suc, ◌+◌, ◌<◌, ◌≤◌, ◌==◌, Bool, true, false, List, length, get_or, Some, refl, sym, ap, ◌∙◌, subst, arith}
use Rattle.std.proofs.lemmas.Bool.{eqb-false}
use Rattle.cmark_grammar.specs.BracketDecisions.{decide}
use Rattle.cmark_grammar.specs.BracketReading.{Comes, Reads}
use Rattle.cmark_grammar.specs.BracketStates.{Asks, Decision, Outcome, Settled, State, moved, opened}
use Rattle.cmark_grammar.specs.InlineTokens.{bracket, token}
use Rattle.cmark_grammar.specs.Items as items
use Rattle.cmark_grammar.specs.Items.{Closes, Token}
use Rattle.cmark_grammar.specs.LeafReading.{Between, entering}
use Rattle.cmark_grammar.specs.LeafText.{Leaf}
use Rattle.cmark_grammar.specs.Parts.{Closing, Form, Nil, Opening, Parts, Single, openings}
use Rattle.cmark_grammar.specs.Questions.{AnyAnswer, Exchange, Saying}
use Rattle.cmark_grammar.specs.Readers.{Reader}
use Rattle.cmark_inline_model.specs.BracketPass.{Pass, closed_by, pass}
use Rattle.cmark_inline_model.specs.PartLists.{Cut, following, cut_at, join}
use Rattle.cmark_inline_model.specs.PlacedTokens.{StopsAt, one_stretch, placed_item, text_reader}
use Rattle.cmark_inline_model.specs.Progress.{Always, Fits, Keeps}
use Rattle.cmark_inline_model.proofs.BracketsSound.{joined, results}
use Rattle.cmark_inline_model.proofs.DecisionLaws.{decide-fits, decide-recorded}
use Rattle.cmark_inline.specs.Closers.{AsksOfCloser, ShowsState}
use Rattle.cmark_inline.specs.CursorProgress.{HasReached, IsUnderWay}
use Rattle.cmark_inline.specs.Decided.{AsksOf, ReadsSame}
use Rattle.cmark_inline.specs.LeastSteps.{Tally}
use Rattle.cmark_inline.specs.Reached.{ReadsPlaces}
use Rattle.cmark_inline.specs.Resolved.{Answered}
use Rattle.cmark_inline.specs.declared.callback.BrokenLink.{BrokenLink}
use Rattle.cmark_inline.specs.declared.state.InlineState.{InlineState}
use Rattle.cmark_inline.proofs.ComeClosers.{answered-more, closed-state, closing-token}
use Rattle.cmark_inline.proofs.PendingReads.{begun-placed, item-within, stops-there}
use Rattle.cmark_inline.proofs.PendingTexts.{text_item}
use Rattle.cmark_inline.proofs.PlainChains.{IsHeld, begun-order}
use Rattle.cmark_inline.proofs.ReachedItems.{shows-on}
use Rattle.cmark_inline.proofs.SpecialSteps.{bracket-closes}
use Rattle.cmark_leaf_text.specs.Reads.{is_cell_of, text_of}
use Rattle.cmark_leaf_text.specs.declared.leaf_text.LeafText.{LeafText}
use Rattle.cmark_references.specs.declared.definitions.RefDefs.{RefDefs}
use Rattle.cmark_slots.specs.declared.bracket.Bracket.{Bracket}
use Rattle.cmark_values.specs.declared.text.CowStr.{CowStr}

-- ## Opening brackets that are texts

cut-following : (piece : Parts) (found : Option Cut) → (cut : Cut) × (found ≡ Some cut) → (cut : Cut) × (following piece found ≡ Some cut)
cut-following piece found c = (record { before = join piece c.0.before; opener = c.0.opener; inside = c.0.inside }, ap (following piece) c.1)

-- parts with more than `nearer` opening brackets that are texts can be cut
cut-there : (nearer : ℕ) (whole : Parts) → nearer < openings whole → (cut : Cut) × (cut_at nearer whole ≡ Some cut)
cut-there nearer Nil lt = absurd (omega (arith, lt))
cut-there nearer (Single item after) lt = cut-following (Single item Nil) (cut_at nearer after) (cut-there nearer after lt)
cut-there nearer (Form opener inside closer formed after) lt = cut-following (Form opener inside closer formed Nil) (cut_at nearer after) (cut-there nearer after lt)
cut-there nearer (Closing closer after) lt = cut-following (Closing closer Nil) (cut_at nearer after) (cut-there nearer after lt)
cut-there nearer (Opening opener after) lt = go (openings after == nearer) refl (cut-there nearer after)
  where
    go : (z : Bool) → (openings after == nearer) ≡ z → (nearer < openings after → (cut : Cut) × (cut_at nearer after ≡ Some cut))
        → (cut : Cut) × ((if z then Some (record { before = Nil; opener = opener; inside = after }) else following (Opening opener Nil) (cut_at nearer after)) ≡ Some cut)
    go true e there = (record { before = Nil; opener = opener; inside = after }, refl)
    go false e there =
        let other = eqb-false (openings after) nearer e in
        cut-following (Opening opener Nil) (cut_at nearer after) (there (omega (arith, lt, other)))

module _ (token : ℕ → Token) (decide : State → (closer : items.Bracket) → Decision) (Says : Saying) (fits : (s : State) (closer : items.Bracket) → Always (Fits (length s.openers)) (decide s closer)) where
  comes-fit : (d : Decision) (size : ℕ) (asked : List Exchange) (outcome : Outcome) → Always (Fits size) d → Comes Says asked d outcome → Fits size outcome
  comes-fit (Settled settled) size asked outcome f c = subst (Fits size) (sym c) f
  comes-fit (Asks question answered) size asked outcome f c = subst (Fits size) (sym c.2) (f c.0)

  -- a state knows each opening bracket that is a text in the parts that were read
  reads-known : (s : State) (parts : Parts) (t : State) → Reads token decide Says s parts t → openings parts + length s.openers ≡ length t.openers
  reads-known s Nil t h = let e = ap (λ (x : State). length x.openers) h in omega (arith, e)
  reads-known s (Single item after) t h = reads-known (moved h.0 s) after t h.2
  reads-known s (Form opener inside closer formed after) t h =
      let a = reads-known (opened opener s) inside h.until h.inside in
      let f = comes-fit (decide h.until closer) (length h.until.openers) h.until.asked _ (fits h.until closer) h.comes in
      let b = reads-known h.next after t h.after in
      omega (arith, a, f, b)
  reads-known s (Closing closer after) t h =
      let f = comes-fit (decide s closer) (length s.openers) s.asked _ (fits s closer) h.comes in
      let b = reads-known h.next after t h.after in
      omega (arith, f, b)
  reads-known s (Opening opener after) t h = let a = reads-known (opened opener s) after t h.1 in omega (arith, a)

-- ## The parts that were read

module _ (reader : Reader) (read : Leaf) {F : Type 0} (R : F → BrokenLink → Option (CowStr × CowStr) → F → Type 0) (before : Between) (initial now : F) where
  -- either nothing was asked for the closing bracket, or its question, which the next step asks
  pub under-way : (p : Pass) (closer : items.Bracket) (later : F) → Reads (token reader read) (decide reader read) AnyAnswer (entering read before) p.here p.state → Answered R p.state.asked initial now
      → token reader read p.state.at ≡ Closes closer → AsksOf R (decide reader read p.state closer) now later → IsUnderWay R reader read before initial later
  under-way p closer later reads answered t asks = go (decide reader read p.state closer) refl asks ((decide-recorded reader read).keeps p.state closer)
    where
      same : later ≡ now → IsUnderWay R reader read before initial later
      same e = record { p = p; reads = reads; answered = subst (Answered R p.state.asked initial) (sym e) answered }

      go : (d : Decision) → decide reader read p.state closer ≡ d → AsksOf R d now later → Keeps p.state.asked d → IsUnderWay R reader read before initial later
      go (Settled settled) e a k = same a
      go (Asks question replied) e (inl a) k = same a
      go (Asks question replied) e (inr a) k =
          let o : Outcome = replied a.0 in
          let comes : Comes AnyAnswer p.state.asked (decide reader read p.state closer) o = subst (λ d. Comes AnyAnswer p.state.asked d o) (sym e) (a.0, tt, refl) in
          let known = reads-known (token reader read) (decide reader read) AnyAnswer (decide-fits reader read) (entering read before) p.here p.state reads in
          let f : Fits (length p.state.openers) o = comes-fit (token reader read) (decide reader read) AnyAnswer (decide-fits reader read) (decide reader read p.state closer) (length p.state.openers) p.state.asked o (decide-fits reader read p.state closer) comes in
          let state_is : (closed_by p closer o).state ≡ o.after = closed-state p closer o.result o.after (length p.state.openers) (λ nearer low. cut-there nearer p.here (omega (arith, low, known))) f in
          record {
            p = closed_by p closer o;
            reads = results (token reader read) (decide reader read) AnyAnswer (entering read before) p closer o.result o.after t comes reads;
            answered =
                subst (λ l. Answered R l initial later) (sym (ap (λ (s : State). s.asked) state_is ∙ k a.0))
                (answered-more R p.state.asked initial now later question a.0 answered a.1);
          }

module _ (leaf : LeafText) (reader : Reader) (read : Leaf) (place : ℕ → ℕ) (r : ReadsPlaces leaf reader read place) where
  abbrev text : List ℕ
  text = text_of leaf

  abbrev cell : Bool
  cell = is_cell_of leaf

  module _ {F : Type 0} (R : F → BrokenLink → Option (CowStr × CowStr) → F → Type 0) (before : Between) (tally : Tally) (initial now : F) where
    -- the leaf was read up to the offset `at`, with the questions that were asked
    pub reached-under-way : (at : ℕ) (state : InlineState) → HasReached R leaf reader read place before tally initial at state now → IsUnderWay R reader read before initial now
    reached-under-way at state h = record { p = h.p; reads = h.has_read.reads; answered = h.answered }

    -- the pass has read the pending text, up to the offset `at`
    record HasPassed (at : ℕ) (state : InlineState) : Type 0 where
      p : Pass
      bs : List Bracket
      reads : Reads (token reader read) (decide reader read) AnyAnswer (entering read before) p.here p.state
      at_is : p.state.at ≡ place at
      shows : ShowsState reader.options.wikilinks text place at p.state bs state
      answered : Answered R p.state.asked initial now

    held-passed : (at start to : ℕ) (state : InlineState) → HasReached R leaf reader read place before tally initial at state now → IsHeld reader.options reader.lookup cell text at start to → to ≤ length text
        → StopsAt (text_reader reader.options reader.lookup text) (one_stretch cell text) to → HasPassed to state
    held-passed at start to state h (inl e) within stops =
        subst (λ n. HasPassed n state) (e.0 ∙ e.1) (record { p = h.p; bs = h.bs; reads = h.has_read.reads; at_is = h.at_is; shows = h.shows; answered = h.answered })
    held-passed at start to state h (inr b) within stops =
        let item = placed_item place (text_item start to) in
        let next : State = moved (place to) h.p.state in
        let some = begun-order reader.options reader.lookup cell text at start to b in
        let fits = (item-within reader.options reader.lookup cell text at (text_item start b.end) b.end b.token).begins in
        record {
          p = pass next (join h.p.here (Single item Nil));
          bs = h.bs;
          reads = joined (token reader read) (decide reader read) AnyAnswer (entering read before) h.p.here h.p.state (Single item Nil) next h.has_read.reads
              (place to, ap (token reader read) h.at_is ∙ begun-placed leaf reader read place r at start to b within stops, refl);
          at_is = refl;
          shows = shows-on reader.options.wikilinks text place at to h.p.state next h.bs state state (omega (arith, fits, some)) (record { brackets = refl; doubled = refl; expansion_left = refl; label = refl; examined = refl }) refl refl refl h.shows;
          answered = h.answered;
        }

    -- memory is refused at a closing bracket
    pub closing-under-way : (references : RefDefs) (at start close : ℕ) (state : InlineState) (later : F) → ReadsSame reader.options reader.lookup references tally.notes leaf reader read place
        → HasReached R leaf reader read place before tally initial at state now → IsHeld reader.options reader.lookup cell text at start close → close < length text → get_or text close 0 ≡ 93
        → AsksOfCloser R reader.options reader.lookup references tally.notes leaf text close state now later → IsUnderWay R reader read before initial later
    closing-under-way references at start close state later same reached held lt byte asks =
        let closer : items.Bracket = record { is_image = false; start = place close; end = suc (place close) } in
        let h = held-passed at start close state reached held (omega (arith, lt))
        (stops-there reader.options reader.lookup cell text close (Closes (bracket false close (close + 1))) (bracket-closes reader.options reader.lookup cell text close lt byte) tt) in
        under-way reader read R before initial now h.p closer later h.reads h.answered (ap (token reader read) h.at_is ∙ closing-token leaf reader read place r close lt byte)
        (asks reader read place closer h.p.state h.bs same (record { within = lt; byte = byte; start = refl; end = refl }) h.shows)
