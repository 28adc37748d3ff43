use Rattle.std.specs.Prelude.{map}
use Rattle.std.proofs.Common.{rules, ◌≡◌, ◌≤◌, ℕ, List, [], drop, take, get_or, length, refl, sym, ap, ◌∙◌, subst, arith, true≢false}
use Rattle.std.proofs.lemmas.Str.{IsCharBoundary-start}
use Rattle.cmark_inline_model.specs.EmphasisModel.{pairs_of, spans_of}
use Rattle.cmark_inline_model.proofs.EmphasisSound.{sound as emphasis}
use Rattle.cmark_leaf_text.specs.Reads.{text_of}
use Rattle.cmark_values.specs.Shown.{shown_options}
use Rattle.cmark_inline_model.specs.SlotRows.{marked, marks_by, quoted}
use Rattle.cmark_inline.specs.CursorProgress.{HasCome}
use Rattle.cmark_inline.specs.LeafPass.{CanReadOn}
use Rattle.cmark_inline.specs.Resolved.{Stops}
use Rattle.cmark_inline.specs.Sought.{IsSoughtIn}
use Rattle.cmark_inline.specs.TextOf.{IsTextOf}
use Rattle.cmark_slots.specs.SlotViews.{shown_slots}
use Rattle.cmark_inline.proofs.LastCalls.{on-err}
use Rattle.cmark_inline.proofs.ComeLoops.{begin-comes, comes-further, loop-stops, step-stops}
use Rattle.cmark_inline.proofs.ComeEnds.{end-reads, end-takes, end-uses}
use Rattle.cmark_inline.specs.Asking.{AsksUpTo, closing_brackets}
use Rattle.cmark_slots.specs.MarkedSlots.{AreWhole, EndWithin, HaveBytes, places_of, siblings_from}
use Rattle.cmark_slots.specs.QuoteSlots.{characters_of, with_characters}
use Rattle.cmark_slots.specs.Standing.{AreEnded, NamesNoMore}
use Rattle.cmark_inline.specs.Sound.{IsSound}
use Rattle.cmark_slots.specs.Slots.{AreSlots, PushesText}
use Rattle.cmark_emphasis.specs.declared.run.PlacedRun.{PlacedRun}
use Rattle.cmark_slots.specs.declared.quote.PlacedQuote.{PlacedQuote}
use Rattle.cmark_slots.specs.declared.slot.Slot.{Slot}
use Rattle.cmark_inline.specs.declared.state.InlineState.{InlineState}
use Rattle.cmark_inline.specs.declared.steps.Steps.{Steps}
use Rattle.cmark_inline.proofs.Keeping.{keeps-pending}
use Rattle.cmark_slots.proofs.Naming.{ended-on, named-on, no-more-on}
use Rattle.cmark_inline.proofs.SourceOrder.{ends-following, left-of}
use Rattle.cmark_slots.proofs.Settling.{letters-name, letters-settle}
use Rattle.cmark_slots.proofs.Soundness.{sound-settles-all}
use Rattle.cmark_inline.proofs.PaidSteps.{extent-within, paid-start, text-fits}
use Rattle.cmark_inline.proofs.Questions.{asks-all, asks-on}
use Rattle.cmark_inline.specs.Uses.{RiseUpTo}
use Rattle.cmark_inline.proofs.UsesCounted.{kept-rise, rise-all, rise-to}
use Rattle.cmark_inline.proofs.state.InlineState.read_leaf.Goals as goal

pub loop-cursor-init : goal.loop-cursor-init
loop-cursor-init g c =
    let b = IsCharBoundary-start c.as_str-text.result.now c.as_str-text.utf8 in
    (c.clear.ensures.stands c.as_str-text.result.now, record { pending = b; at = b; ordered = omega arith }, refl, (λ none. (refl, none)), search rules, c.none.ensures.kept c.args.leaf.now 0, search rules, (λ folded. refl), c.clear.ensures.sound, subst (AreEnded c.args.leaf.now) (sym c.clear.ensures.slots) (λ k d lt. absurd (omega (arith, lt))), λ set. begin-comes g.F.BrokenLinkCallback.answers (shown_options c.args.reader.now.options) (g.E.EntityLookup.replacement c.args.reader.now.entities.now) c.args.reader.now.references.now _ c.args.footnotes.now c.args.leaf.now c.args.callback.now c.clear.new.self c.clear.ensures.cleared, (λ none. (refl, c.clear.ensures.cleared.quotes, c.clear.ensures.cleared.runs)), paid-start c.args.leaf.now c.requires.read _ (search rules) (search rules) (search rules) (search rules) (c.none.ensures.paid c.args.leaf.now (text-fits c.args.leaf.now c.requires.read)), refl, kept-rise (closing_brackets (take 0 c.as_str-text.result.now)) c.args.footnotes.now c.args.footnotes.now (λ folded. refl), c.requires.ready)

pub loop-cursor-preserved : goal.loop-cursor-preserved
loop-cursor-preserved g c =
    let i = c.loop-cursor.invariant in
    let m = c.in_ok-cursor.ensures.passes.moves in
    let a : ℕ = c.loop-cursor.cursor.at in
    let b : ℕ = c.in_ok-cursor.cursor.at in
    let lt = m.further in (
      m.stands,
      m.cursor,
      asks-on g.F.BrokenLinkCallback.answers c.as_str-text.result.now a b c.args.callback.now c.loop-cursor.callback c.step.new.callback i.2 (let q : a ≤ b = omega (arith, lt) in q) c.in_ok-cursor.ensures.passes.asks,
      (λ none. let p = i.3 none in let q = c.step.ensures.between.spent p.1 in (q.0 ∙ p.0, q.1)),
      c.step.ensures.between.of_text.runs,
      c.in_ok-cursor.ensures.passes.sought.kept,
      c.step.ensures.between.of_text.dollars,
      (λ folded. c.step.ensures.between.footnotes folded ∙ i.7 folded),
      c.in_ok-cursor.ensures.passes.sound,
      c.in_ok-cursor.ensures.passes.ends i.9,
      (λ set. comes-further g.F.BrokenLinkCallback.answers (shown_options c.args.reader.now.options) (g.E.EntityLookup.replacement c.args.reader.now.entities.now) c.args.reader.now.references.now c.args.footnotes.now c.loop-cursor.footnotes c.step.new.footnotes c.args.leaf.now c.clear.new.self.expansion_left c.args.callback.now c.loop-cursor.sought c.step.new.sought
          c.loop-cursor.cursor c.in_ok-cursor.cursor c.loop-cursor.self c.step.new.self c.loop-cursor.callback c.step.new.callback i.7 (i.10 set) (c.in_ok-cursor.ensures.come set) i.9),
      (λ none. absurd (let size = ap length none in let more = c.loop-cursor-test.true in let d : ⊥ = omega (arith, size, more) in d)),
      c.in_ok-cursor.ensures.passes.sought.paid,
      c.step.ensures.between.steps ∙ i.13,
      rise-to c.as_str-text.result.now a b c.args.footnotes.now c.loop-cursor.footnotes c.step.new.footnotes (let q : a ≤ b = omega (arith, lt) in q) i.14 c.in_ok-cursor.ensures.passes.rise,
      c.step.ensures.between.ready,
    )

pub returns-in_err-cursor-clause-within : goal.returns-in_err-cursor-clause-within
returns-in_err-cursor-clause-within g c =
    let text : List ℕ = c.as_str-text.result.now in
    record {
      ready = search rules;
      asks = (let i = c.loop-cursor.invariant in
          let answers = g.F.BrokenLinkCallback.answers in
          subst (λ (t : List ℕ). AsksUpTo answers (closing_brackets t) c.args.callback.now c.step.new.callback) c.as_str-text.ensures
          (asks-all answers text (length text) c.args.callback.now c.step.new.callback
          (asks-on answers text c.loop-cursor.cursor.at (length text) c.args.callback.now c.loop-cursor.callback c.step.new.callback i.2 i.1.at.0 c.step.ensures.between.asks)));
      spent = search rules;
      footnotes = search rules;
      rise = (subst (λ (t : List ℕ). RiseUpTo (closing_brackets t) c.args.footnotes.now c.step.new.footnotes) c.as_str-text.ensures
          (rise-all text (length text) c.args.footnotes.now c.step.new.footnotes
          (rise-to text c.loop-cursor.cursor.at (length text) c.args.footnotes.now c.loop-cursor.footnotes c.step.new.footnotes c.loop-cursor.invariant.1.at.0 c.loop-cursor.invariant.14 c.step.ensures.between.rise)));
    }

pub resolve-requires-clause-texts : goal.resolve-requires-clause-texts
resolve-requires-clause-texts g c =
    let mid : InlineState = c.flush.new.self in
    ((keeps-pending c.loop-cursor.self mid c.in_ok-flush.ensures.others c.loop-cursor.cursor.pending _ c.in_ok-flush.ensures.slots).sound c.loop-cursor.invariant.8).quotes_are

pub resolve-requires-2-clause-can : goal.resolve-requires-2-clause-can
resolve-requires-2-clause-can g c =
    let mid : InlineState = c.flush.new.self in
    let runs : List PlacedRun = drop 0 mid.delimiters.placed.items in
    let quotes : List PlacedQuote = drop 0 mid.quotes.placed.items in
    let sound : IsSound mid = (keeps-pending c.loop-cursor.self mid c.in_ok-flush.ensures.others c.loop-cursor.cursor.pending _ c.in_ok-flush.ensures.slots).sound c.loop-cursor.invariant.8 in
    let can = sound-settles-all (length mid.texts.items) (length mid.links.items) mid.slots.items mid.delimiters.placed.items mid.quotes.placed.items mid.brackets.standing.items mid.doubled.standing.items sound in
    record {
      bytes = subst (λ l. HaveBytes l 0 0 runs) (sym c.in_ok-resolve.ensures.value) (letters-settle 0 mid.slots.items runs quotes can (characters_of quotes)).2;
      whole = subst AreWhole (sym c.in_ok-resolve.ensures.value) (letters-settle 0 mid.slots.items runs quotes can (characters_of quotes)).0;
      known = sound.known;
    }

pub returns-in_err-cursor-clause-succeeds : goal.returns-in_err-cursor-clause-succeeds
returns-in_err-cursor-clause-succeeds g c = λ none. absurd (let size = ap length (c.as_str-text.ensures ∙ none) in let more = c.loop-cursor-test.true in let d : ⊥ = omega (arith, size, more) in d)

pub returns-in_err-flush-clause-succeeds : goal.returns-in_err-flush-clause-succeeds
returns-in_err-flush-clause-succeeds g c = λ none.
    let text : List ℕ = c.as_str-text.result.now in
    let size : length text ≡ 0 = ap length (c.as_str-text.ensures ∙ none) in
    absurd (true≢false (sym (c.in_err-flush.ensures.succeeds (omega (arith, size)))))

pub returns-in_err-resolve-clause-succeeds : goal.returns-in_err-resolve-clause-succeeds
returns-in_err-resolve-clause-succeeds g c = λ none.
    let i = c.loop-cursor.invariant.11 (c.as_str-text.ensures ∙ none) in
    let size : length c.flush.new.self.quotes.placed.items ≡ 0 = ap (λ (s : InlineState). length s.quotes.placed.items) c.in_ok-flush.ensures.others ∙ ap length i.1 in
    absurd (true≢false (sym (c.in_err-resolve.ensures.succeeds (omega (arith, size)))))

pub returns-in_err-resolve-2-clause-succeeds : goal.returns-in_err-resolve-2-clause-succeeds
returns-in_err-resolve-2-clause-succeeds g c = λ none.
    let i = c.loop-cursor.invariant.11 (c.as_str-text.ensures ∙ none) in
    let size : length c.flush.new.self.delimiters.placed.items ≡ 0 = ap (λ (s : InlineState). length s.delimiters.placed.items) c.in_ok-flush.ensures.others ∙ ap length i.2 in
    absurd (true≢false (sym (c.in_err-resolve-2.ensures.succeeds (omega (arith, size)))))

pub returns-clause-within : goal.returns-clause-within
returns-clause-within g c = record {
  ready = search rules;
  asks = (let answers = g.F.BrokenLinkCallback.answers in
      subst (λ (t : List ℕ). AsksUpTo answers (closing_brackets t) c.args.callback.now c.loop-cursor.callback) c.as_str-text.ensures
      (asks-all answers c.as_str-text.result.now c.loop-cursor.cursor.at c.args.callback.now c.loop-cursor.callback c.loop-cursor.invariant.2));
  spent = (λ none. (c.loop-cursor.invariant.3 (c.clear.ensures.expansion_left ∙ none)).0);
  footnotes = search rules;
  rise = (subst (λ (t : List ℕ). RiseUpTo (closing_brackets t) c.args.footnotes.now c.loop-cursor.footnotes) c.as_str-text.ensures
      (rise-all c.as_str-text.result.now c.loop-cursor.cursor.at c.args.footnotes.now c.loop-cursor.footnotes c.loop-cursor.invariant.14));
}

pub returns-in_err-flush-clause-within : goal.returns-in_err-flush-clause-within
returns-in_err-flush-clause-within g c = record {
  ready = search rules;
  asks = (let answers = g.F.BrokenLinkCallback.answers in
      subst (λ (t : List ℕ). AsksUpTo answers (closing_brackets t) c.args.callback.now c.loop-cursor.callback) c.as_str-text.ensures
      (asks-all answers c.as_str-text.result.now c.loop-cursor.cursor.at c.args.callback.now c.loop-cursor.callback c.loop-cursor.invariant.2));
  spent = (λ none. (c.loop-cursor.invariant.3 (c.clear.ensures.expansion_left ∙ none)).0);
  footnotes = search rules;
  rise = (subst (λ (t : List ℕ). RiseUpTo (closing_brackets t) c.args.footnotes.now c.loop-cursor.footnotes) c.as_str-text.ensures
      (rise-all c.as_str-text.result.now c.loop-cursor.cursor.at c.args.footnotes.now c.loop-cursor.footnotes c.loop-cursor.invariant.14));
}

pub returns-in_err-resolve-clause-within : goal.returns-in_err-resolve-clause-within
returns-in_err-resolve-clause-within g c = record {
  ready = search rules;
  asks = (let answers = g.F.BrokenLinkCallback.answers in
      subst (λ (t : List ℕ). AsksUpTo answers (closing_brackets t) c.args.callback.now c.loop-cursor.callback) c.as_str-text.ensures
      (asks-all answers c.as_str-text.result.now c.loop-cursor.cursor.at c.args.callback.now c.loop-cursor.callback c.loop-cursor.invariant.2));
  spent = (λ none. (c.loop-cursor.invariant.3 (c.clear.ensures.expansion_left ∙ none)).0);
  footnotes = search rules;
  rise = (subst (λ (t : List ℕ). RiseUpTo (closing_brackets t) c.args.footnotes.now c.loop-cursor.footnotes) c.as_str-text.ensures
      (rise-all c.as_str-text.result.now c.loop-cursor.cursor.at c.args.footnotes.now c.loop-cursor.footnotes c.loop-cursor.invariant.14));
}

pub returns-in_err-resolve-2-clause-within : goal.returns-in_err-resolve-2-clause-within
returns-in_err-resolve-2-clause-within g c = record {
  ready = search rules;
  asks = (let answers = g.F.BrokenLinkCallback.answers in
      subst (λ (t : List ℕ). AsksUpTo answers (closing_brackets t) c.args.callback.now c.loop-cursor.callback) c.as_str-text.ensures
      (asks-all answers c.as_str-text.result.now c.loop-cursor.cursor.at c.args.callback.now c.loop-cursor.callback c.loop-cursor.invariant.2));
  spent = (λ none. (c.loop-cursor.invariant.3 (c.clear.ensures.expansion_left ∙ none)).0);
  footnotes = search rules;
  rise = (subst (λ (t : List ℕ). RiseUpTo (closing_brackets t) c.args.footnotes.now c.loop-cursor.footnotes) c.as_str-text.ensures
      (rise-all c.as_str-text.result.now c.loop-cursor.cursor.at c.args.footnotes.now c.loop-cursor.footnotes c.loop-cursor.invariant.14));
}

pub count-requires-clause-few : goal.count-requires-clause-few
count-requires-clause-few g c =
    let leaf = c.args.leaf.now in
    let i = c.loop-cursor.invariant in
    let markup = i.12.markup.paid in
    let runs = i.12.runs.paid in
    let signs = i.12.signs.paid in
    let fits = text-fits leaf c.requires.read in
    let within = extent-within leaf c.requires.read in
    let stands = c.in_ok-flush.ensures.stands.examined in
    let examined = c.resolve-2.ensures.examined in
    let size = ap length c.as_str-text.ensures in
    omega (arith, markup, runs, signs, fits, within, stands, examined, size)

pub returns-clause-counts : goal.returns-clause-counts
returns-clause-counts g c =
    let leaf = c.args.leaf.now in
    let i = c.loop-cursor.invariant in
    let same = ap (λ (s : InlineState). s.steps) c.flush.ensures.others ∙ i.13 ∙ c.clear.ensures.steps in
    let counts = c.count.ensures in
    let html = ap (λ (s : Steps). s.html) counts in
    let openers = ap (λ (s : Steps). s.openers) counts in
    let closers = ap (λ (s : Steps). s.closers) counts in
    let html-was = ap (λ (s : Steps). s.html) same in
    let openers-were = ap (λ (s : Steps). s.openers) same in
    let closers-were = ap (λ (s : Steps). s.closers) same in
    let markup = i.12.markup.paid in
    let runs = i.12.runs.paid in
    let signs = i.12.signs.paid in
    let fits = text-fits leaf c.requires.read in
    let stands = c.in_ok-flush.ensures.stands.examined in
    let examined = c.resolve-2.ensures.examined in
    let size = ap length c.as_str-text.ensures in
    record {
      html_grows = omega (arith, html, html-was);
      closers_grow = omega (arith, closers, closers-were);
      openers_grow = omega (arith, openers, openers-were);
      found = omega (arith, html, closers, html-was, closers-were, markup, runs, signs, fits);
      opened = omega (arith, openers, openers-were, stands, examined, size);
    }

pub returns-in_err-cursor-clause-stops : goal.returns-in_err-cursor-clause-stops
returns-in_err-cursor-clause-stops g c = λ set. on-err c.from_residual.result _
    (let i = c.loop-cursor.invariant in
    subst (λ n. Stops g.F.BrokenLinkCallback.answers (shown_options c.args.reader.now.options) (g.E.EntityLookup.replacement c.args.reader.now.entities.now) c.args.reader.now.references.now c.args.footnotes.now c.args.leaf.now n c.args.callback.now c.step.new.callback) c.clear.ensures.expansion_left
    (step-stops g.F.BrokenLinkCallback.answers (shown_options c.args.reader.now.options) (g.E.EntityLookup.replacement c.args.reader.now.entities.now) c.args.reader.now.references.now c.args.footnotes.now c.loop-cursor.footnotes c.args.leaf.now c.clear.new.self.expansion_left c.args.callback.now
    c.loop-cursor.sought c.loop-cursor.cursor c.loop-cursor.self c.loop-cursor.callback c.step.new.callback i.7 (i.10 set) (c.in_err-cursor.ensures.stops set)))

pub returns-in_err-flush-clause-stops : goal.returns-in_err-flush-clause-stops
returns-in_err-flush-clause-stops g c = λ set. on-err c.from_residual-in_err-flush.result _
    (subst (λ n. Stops g.F.BrokenLinkCallback.answers (shown_options c.args.reader.now.options) (g.E.EntityLookup.replacement c.args.reader.now.entities.now) c.args.reader.now.references.now c.args.footnotes.now c.args.leaf.now n c.args.callback.now c.loop-cursor.callback) c.clear.ensures.expansion_left
    (loop-stops g.F.BrokenLinkCallback.answers (shown_options c.args.reader.now.options) (g.E.EntityLookup.replacement c.args.reader.now.entities.now) c.args.reader.now.references.now c.args.footnotes.now c.loop-cursor.footnotes c.args.leaf.now c.clear.new.self.expansion_left c.args.callback.now
    c.loop-cursor.sought c.loop-cursor.cursor c.loop-cursor.self c.loop-cursor.callback (c.loop-cursor.invariant.10 set)))

pub returns-in_err-resolve-clause-stops : goal.returns-in_err-resolve-clause-stops
returns-in_err-resolve-clause-stops g c = λ set. on-err c.from_residual-in_err-resolve.result _
    (subst (λ n. Stops g.F.BrokenLinkCallback.answers (shown_options c.args.reader.now.options) (g.E.EntityLookup.replacement c.args.reader.now.entities.now) c.args.reader.now.references.now c.args.footnotes.now c.args.leaf.now n c.args.callback.now c.loop-cursor.callback) c.clear.ensures.expansion_left
    (loop-stops g.F.BrokenLinkCallback.answers (shown_options c.args.reader.now.options) (g.E.EntityLookup.replacement c.args.reader.now.entities.now) c.args.reader.now.references.now c.args.footnotes.now c.loop-cursor.footnotes c.args.leaf.now c.clear.new.self.expansion_left c.args.callback.now
    c.loop-cursor.sought c.loop-cursor.cursor c.loop-cursor.self c.loop-cursor.callback (c.loop-cursor.invariant.10 set)))

pub returns-in_err-resolve-2-clause-stops : goal.returns-in_err-resolve-2-clause-stops
returns-in_err-resolve-2-clause-stops g c = λ set. on-err c.from_residual-in_err-resolve-2.result _
    (subst (λ n. Stops g.F.BrokenLinkCallback.answers (shown_options c.args.reader.now.options) (g.E.EntityLookup.replacement c.args.reader.now.entities.now) c.args.reader.now.references.now c.args.footnotes.now c.args.leaf.now n c.args.callback.now c.loop-cursor.callback) c.clear.ensures.expansion_left
    (loop-stops g.F.BrokenLinkCallback.answers (shown_options c.args.reader.now.options) (g.E.EntityLookup.replacement c.args.reader.now.entities.now) c.args.reader.now.references.now c.args.footnotes.now c.loop-cursor.footnotes c.args.leaf.now c.clear.new.self.expansion_left c.args.callback.now
    c.loop-cursor.sought c.loop-cursor.cursor c.loop-cursor.self c.loop-cursor.callback (c.loop-cursor.invariant.10 set)))

pub returns-clause-laid_out : goal.returns-clause-laid_out
returns-clause-laid_out g c =
    let text : List ℕ = c.as_str-text.result.now in
    let mid : InlineState = c.flush.new.self in
    let one : List Slot = mid.slots.items in
    let two : List Slot = c.resolve.new.slots.items in
    let new : List Slot = c.resolve-2.new.slots.items in
    let runs : List PlacedRun = drop 0 mid.delimiters.placed.items in
    let quotes : List PlacedQuote = drop 0 mid.quotes.placed.items in
    let sound : IsSound mid = (keeps-pending c.loop-cursor.self mid c.in_ok-flush.ensures.others c.loop-cursor.cursor.pending _ c.in_ok-flush.ensures.slots).sound c.loop-cursor.invariant.8 in
    let can = sound-settles-all (length mid.texts.items) (length mid.links.items) one mid.delimiters.placed.items mid.quotes.placed.items mid.brackets.standing.items mid.doubled.standing.items sound in
    let v : two ≡ with_characters quotes (characters_of quotes) one = c.in_ok-resolve.ensures.value in
    let t = letters-settle 0 one runs quotes can (characters_of quotes) in
    let whole : AreWhole two = subst AreWhole (sym v) t.0 in
    let within : EndWithin two = subst EndWithin (sym v) t.1 in
    let bytes : HaveBytes two 0 0 runs = subst (λ l. HaveBytes l 0 0 runs) (sym v) t.2 in
    let marks = c.in_ok-resolve-2.ensures.resolved in
    record {
      few = search rules;
      slots = (subst (λ (text : List ℕ). AreSlots text (length text) c.resolve-2.new.slots.items) c.as_str-text.ensures
          (c.in_ok-resolve-2.ensures.resolved.keeps.slots text (length text) (c.in_ok-resolve.ensures.slots text (length text) c.in_ok-flush.ensures.stands.slots)));
      left = (let names : NamesNoMore one new = (no-more-on one two new (subst (NamesNoMore one) (sym v) (letters-name 0 one runs quotes can (characters_of quotes))) marks.keeps.names) in
          let named = named-on one new names (length mid.texts.items) (length mid.links.items) sound.named in
          let leaf = c.args.leaf.now in
          let ended = ended-on one new names leaf ((keeps-pending c.loop-cursor.self mid c.in_ok-flush.ensures.others c.loop-cursor.cursor.pending _ c.in_ok-flush.ensures.slots).ends leaf c.loop-cursor.invariant.9) in
          let slots = c.in_ok-resolve-2.ensures.resolved.keeps.slots text (length text) (c.in_ok-resolve.ensures.slots text (length text) c.in_ok-flush.ensures.stands.slots) in
          left-of leaf mid.texts.items mid.links.items new named (λ k d lt. ends-following leaf (get_or new k d) (get_or new k d).kind (slots k d lt).part.some (ended k d lt)));
      whole = ((marks.whole, marks.keeps.within within));
    }

pub returns-clause-reads : goal.returns-clause-reads
returns-clause-reads g c = λ set. record {
  reads = (λ reader read place same places.
      let mid : InlineState = c.flush.new.self in
      let one : List Slot = mid.slots.items in
      let two : List Slot = c.resolve.new.slots.items in
      let new : List Slot = c.resolve-2.new.slots.items in
      let runs : List PlacedRun = drop 0 mid.delimiters.placed.items in
      let quotes : List PlacedQuote = drop 0 mid.quotes.placed.items in
      let sound : IsSound mid = (keeps-pending c.loop-cursor.self mid c.in_ok-flush.ensures.others c.loop-cursor.cursor.pending _ c.in_ok-flush.ensures.slots).sound c.loop-cursor.invariant.8 in
      let can = sound-settles-all (length mid.texts.items) (length mid.links.items) one mid.delimiters.placed.items mid.quotes.placed.items mid.brackets.standing.items mid.doubled.standing.items sound in
      let v : two ≡ with_characters quotes (characters_of quotes) one = c.in_ok-resolve.ensures.value in
      let t = letters-settle 0 one runs quotes can (characters_of quotes) in
      let whole : AreWhole two = subst AreWhole (sym v) t.0 in
      let bytes : HaveBytes two 0 0 runs = subst (λ l. HaveBytes l 0 0 runs) (sym v) t.2 in
      let leaf = c.args.leaf.now in
      let marks = c.in_ok-resolve-2.ensures.resolved.marks leaf mid.texts.items mid.links.items (pairs_of (siblings_from 0 runs)) (spans_of (siblings_from 0 runs)) (emphasis (siblings_from 0 runs)) in
      let letters = c.in_ok-resolve.ensures.quotes leaf mid.texts.items mid.links.items in
      let cursor = c.loop-cursor.cursor in
      let le = c.loop-cursor.invariant.1.at.0 in
      let over = c.loop-cursor-test.false in
      let size = ap length c.as_str-text.ensures in
      let at : cursor.at ≡ length (text_of leaf) = omega (arith, le, over, size) in
      end-reads leaf reader read place places g.F.BrokenLinkCallback.answers c.args.self.now.expansion_left c.args.callback.now (record { sought = c.loop-cursor.sought; begun = c.args.footnotes.now; notes = c.loop-cursor.footnotes }) c.loop-cursor.callback cursor c.loop-cursor.self mid
      (subst (λ n. HasCome g.F.BrokenLinkCallback.answers leaf reader read place (record { expansion_left = n; asked = [] }) (record { sought = c.loop-cursor.sought; begun = c.args.footnotes.now; notes = c.loop-cursor.footnotes }) c.args.callback.now cursor c.loop-cursor.self c.loop-cursor.callback) c.clear.ensures.expansion_left (c.loop-cursor.invariant.10 set reader read place same places))
      at (subst (λ n. PushesText cursor.pending n c.loop-cursor.self.slots.items mid.slots.items) size c.in_ok-flush.ensures.slots) c.in_ok-flush.ensures.others same.source (record mid { slots = c.resolve-2.new.slots })
      (marks ∙ ap (λ l. marked (shown_options c.args.reader.now.options) (places_of runs) (marks_by (length (places_of runs)) (pairs_of (siblings_from 0 runs))) l []) letters
      ∙ ap (λ o. marked o (places_of runs) (marks_by (length (places_of runs)) (pairs_of (siblings_from 0 runs))) (quoted (map (λ (q : PlacedQuote). q.slot) quotes) (characters_of quotes) (shown_slots leaf mid.texts.items mid.links.items one)) []) (sym same.options_are))
      refl);
  least = (λ reader read place same places.
      let leaf = c.args.leaf.now in
      let cursor = c.loop-cursor.cursor in
      let mid : InlineState = c.flush.new.self in
      let le = c.loop-cursor.invariant.1.at.0 in
      let over = c.loop-cursor-test.false in
      let size = ap length c.as_str-text.ensures in
      let at : cursor.at ≡ length (text_of leaf) = omega (arith, le, over, size) in
      let steps = ap (λ (s : InlineState). s.steps) c.flush.ensures.others ∙ c.loop-cursor.invariant.13 ∙ c.clear.ensures.steps in
      let html = ap (λ (s : Steps). s.html) c.count.ensures in
      let openers = ap (λ (s : Steps). s.openers) c.count.ensures in
      let closers = ap (λ (s : Steps). s.closers) c.count.ensures in
      let html-was = ap (λ (s : Steps). s.html) steps in
      let openers-were = ap (λ (s : Steps). s.openers) steps in
      let closers-were = ap (λ (s : Steps). s.closers) steps in
      end-takes leaf reader read place places g.F.BrokenLinkCallback.answers c.args.self.now.expansion_left c.args.callback.now (record { sought = c.loop-cursor.sought; begun = c.args.footnotes.now; notes = c.loop-cursor.footnotes }) c.loop-cursor.callback cursor c.loop-cursor.self mid
      (subst (λ n. HasCome g.F.BrokenLinkCallback.answers leaf reader read place (record { expansion_left = n; asked = [] }) (record { sought = c.loop-cursor.sought; begun = c.args.footnotes.now; notes = c.loop-cursor.footnotes }) c.args.callback.now cursor c.loop-cursor.self c.loop-cursor.callback) c.clear.ensures.expansion_left (c.loop-cursor.invariant.10 set reader read place same places))
      at (subst (λ n. PushesText cursor.pending n c.loop-cursor.self.slots.items mid.slots.items) size c.in_ok-flush.ensures.slots) c.in_ok-flush.ensures.others
      c.args.self.now.steps _ c.resolve-2.new.self.examined (omega (arith, html, html-was)) c.in_ok-resolve-2.ensures.least (omega (arith, openers, openers-were)) (omega (arith, closers, closers-were)));
  uses = (λ reader read place same places.
      let leaf = c.args.leaf.now in
      let cursor = c.loop-cursor.cursor in
      let mid : InlineState = c.flush.new.self in
      let le = c.loop-cursor.invariant.1.at.0 in
      let over = c.loop-cursor-test.false in
      let size = ap length c.as_str-text.ensures in
      let at : cursor.at ≡ length (text_of leaf) = omega (arith, le, over, size) in
      end-uses leaf reader read place places g.F.BrokenLinkCallback.answers c.args.self.now.expansion_left c.args.callback.now (record { sought = c.loop-cursor.sought; begun = c.args.footnotes.now; notes = c.loop-cursor.footnotes }) c.loop-cursor.callback cursor c.loop-cursor.self mid
      (subst (λ n. HasCome g.F.BrokenLinkCallback.answers leaf reader read place (record { expansion_left = n; asked = [] }) (record { sought = c.loop-cursor.sought; begun = c.args.footnotes.now; notes = c.loop-cursor.footnotes }) c.args.callback.now cursor c.loop-cursor.self c.loop-cursor.callback) c.clear.ensures.expansion_left (c.loop-cursor.invariant.10 set reader read place same places))
      at (subst (λ n. PushesText cursor.pending n c.loop-cursor.self.slots.items mid.slots.items) size c.in_ok-flush.ensures.slots) c.in_ok-flush.ensures.others);
}

pub step-requires : goal.step-requires
step-requires g c κs =
    let i = c.loop-cursor.invariant in
    let same = c.as_str-text.ensures in
    let text : IsTextOf c.args.leaf.now c.as_str-text.result.now = record { read = c.requires.read; same = same } in
    let ahead = subst (λ (t : List ℕ). take (length t) c.ahead-ahead.result.now ≡ t) (sym same) c.ahead-ahead.ensures.begins in
    let here : CanReadOn c.as_str-text.result.now c.loop-cursor.cursor c.loop-cursor.self = record { stands = i.0; cursor = i.1; more = c.loop-cursor-test.true; sound = i.8 } in
    let sought : IsSoughtIn c.args.leaf.now c.as_str-text.result.now c.loop-cursor.cursor.at c.loop-cursor.sought = record { of_text = record { runs = i.4; dollars = i.6 }; kept = i.5; paid = i.12 } in
    ((refl, tt), (text, (ahead, (here, (sought, i.15)))))
