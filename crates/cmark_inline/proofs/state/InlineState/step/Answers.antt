use Rattle.std.proofs.Common.{◌≡◌, ◌==◌, ◌<◌, ◌≤◌, ℕ, IfOk, true, false, true≢false, List, length, get_or, inl, inr, refl, ap, sym, subst, ◌∙◌, arith, eqb-true, rules, Result, Ok, Err}
use Rattle.std.proofs.lemmas.Bool.{false_from_ne_true}
use Rattle.cmark_grammar.specs.Answers.{Lookup}
use Rattle.cmark_grammar.specs.Options.{Options}
use Rattle.cmark_values.specs.Shown.{shown_options}
use Rattle.cmark_inline.specs.Closers.{Closes}
use Rattle.cmark_inline.specs.CursorProgress.{ComesOn}
use Rattle.cmark_inline.specs.LeastSteps.{PassesAt, VisitsAt}
use Rattle.cmark_inline.specs.SpecialReads.{ReadsSpecial}
use Rattle.cmark_inline.specs.AtCloser.{PassesCloser}
use Rattle.cmark_inline.specs.Stands.{Moves}
use Rattle.cmark_inline.specs.declared.state.InlineState.{InlineState}
use Rattle.cmark_inline.specs.declared.step.Cursor.{Cursor}
use Rattle.cmark_inline.proofs.ComeCalls.{IsNextAt, both-ok, close-comes, close-stops, rest-comes, span-comes, span-stops, special-there}
use Rattle.std.proofs.lemmas.Result.{IfOk-weaker, on_err_weaker}
use Rattle.cmark_inline_model.specs.SpecialBytes.{is_special}
use Rattle.cmark_inline.proofs.LastCalls.{ok-by-four, on-err}
use Rattle.cmark_inline.proofs.PaidSteps.{all-on}
use Rattle.cmark_inline.proofs.StillUnclosed.{still-unclosed}
use Rattle.cmark_inline.proofs.UsesCounted.{none-between, one-between}
use Rattle.cmark_inline.proofs.state.InlineState.step.Goals as goal

pub returns-then-at-bytes-clause-come : goal.returns-then-at-bytes-clause-come
returns-then-at-bytes-clause-come g c = λ set.
    let n = c.next-at.ensures in
    let is = c.as_bytes-bytes.ensures.value in
    let rows : List ℕ = c.args.reader.now.special.now in
    let at : ℕ = c.next-at.result in
    let there : IsNextAt rows c.args.text.now c.args.cursor.at at = subst (λ (t : List ℕ). IsNextAt rows t c.args.cursor.at at) is (record { value = n.value; plain = n.plain; order = n.following; within = n.within; ascii = n.ascii }) in
    rest-comes g.F.BrokenLinkCallback.answers (shown_options c.args.reader.now.options) (g.E.EntityLookup.replacement c.args.reader.now.entities.now) c.args.reader.now.references.now c.args.footnotes.now c.args.leaf.now rows c.args.text.now c.requires.text.same
    c.args.cursor c.args.self.now at set there c.args.sought.now c.args.callback.now (length c.as_bytes-bytes.result.now) (ap length is) c.if-at-bytes.true c.requires.here.more

pub returns-then-bytes-at-eq93-clause-come : goal.returns-then-bytes-at-eq93-clause-come
returns-then-bytes-at-eq93-clause-come g c = λ set.
    let n = c.next-at.ensures in
    let is = c.as_bytes-bytes.ensures.value in
    let rows : List ℕ = c.args.reader.now.special.now in
    let at : ℕ = c.next-at.result in
    let there : IsNextAt rows c.args.text.now c.args.cursor.at at = subst (λ (t : List ℕ). IsNextAt rows t c.args.cursor.at at) is (record { value = n.value; plain = n.plain; order = n.following; within = n.within; ascii = n.ascii }) in
    let lt : at < length c.args.text.now = subst (λ (t : List ℕ). at < length t) is c.if-at-bytes.false in
    let byte : get_or c.args.text.now at 0 ≡ 93 = ap (λ (t : List ℕ). get_or t at 0) (sym is) ∙ c.if-bytes-at-eq93.true in
    let o : Options = shown_options c.args.reader.now.options in
    let l : Lookup = g.E.EntityLookup.replacement c.args.reader.now.entities.now in
    let old : InlineState = c.args.self.now in
    let new : InlineState = c.close_bracket.new.self in
    let answers = g.F.BrokenLinkCallback.answers in
    let leaf = c.args.leaf.now in
    let references = c.args.reader.now.references.now in
    let notes = c.args.footnotes.now in
    let others = c.close_bracket.new.footnotes in
    let cursor : Cursor = c.args.cursor in
    let callback = c.args.callback.now in
    let later = c.close_bracket.new.callback in
    both-ok c.close_bracket.result (PassesCloser leaf c.args.text.now cursor.pending at old new) (λ (next : Cursor). Closes answers o l references notes others leaf c.args.text.now cursor.pending at old new next callback later)
    (λ (next : Cursor). ComesOn answers o l references notes others leaf c.args.sought.now c.args.sought.now cursor next old new callback later)
    (λ next p k. close-comes answers o l references notes leaf rows c.args.text.now c.requires.text.same cursor old at set there callback new next lt c.requires.here.sound p.moves c.args.sought.now others later byte p.flushes k)
    c.close_bracket.ensures.passes c.close_bracket.ensures.closes

pub returns-clause-come : goal.returns-clause-come
returns-clause-come g c = λ set.
    let n = c.next-at.ensures in
    let is = c.as_bytes-bytes.ensures.value in
    let rows : List ℕ = c.args.reader.now.special.now in
    let at : ℕ = c.next-at.result in
    let there : IsNextAt rows c.args.text.now c.args.cursor.at at = subst (λ (t : List ℕ). IsNextAt rows t c.args.cursor.at at) is (record { value = n.value; plain = n.plain; order = n.following; within = n.within; ascii = n.ascii }) in
    let lt : at < length c.args.text.now = subst (λ (t : List ℕ). at < length t) is c.if-at-bytes.false in
    let other : (get_or c.args.text.now at 0 == 93) ≡ false =
    false_from_ne_true (get_or c.args.text.now at 0 == 93) (λ t. c.if-bytes-at-eq93.false (ap (λ (t : List ℕ). get_or t at 0) is ∙ eqb-true (get_or c.args.text.now at 0) 93 t)) in
    let o : Options = shown_options c.args.reader.now.options in
    let l : Lookup = g.E.EntityLookup.replacement c.args.reader.now.entities.now in
    let old : InlineState = c.args.self.now in
    let new : InlineState = c.span.new.self in
    let answers = g.F.BrokenLinkCallback.answers in
    let leaf = c.args.leaf.now in
    let references = c.args.reader.now.references.now in
    let notes = c.args.footnotes.now in
    let cursor : Cursor = c.args.cursor in
    let callback = c.args.callback.now in
    let visits = VisitsAt c.args.text.now at c.args.sought.now c.span.new.sought in
    let passes = PassesAt o.email_autolinks leaf at c.args.sought.now.unclosed c.span.new.sought.unclosed in
    both-ok c.span.result (λ (next : Cursor). visits × passes × Moves c.args.text.now at new next) (λ (next : Cursor). ReadsSpecial o l leaf (record { pending = cursor.pending; at = at }) old new next)
    (λ (next : Cursor). ComesOn answers o l references notes notes leaf c.args.sought.now c.span.new.sought cursor next old new callback callback)
    (λ next m k. span-comes answers o l references notes leaf rows c.args.text.now c.requires.text.same cursor old at set there callback new next lt c.requires.here.sound m.2 c.args.sought.now c.span.new.sought m.0 m.1 k)
    (both-ok c.span.result (λ (next : Cursor). visits) (λ (next : Cursor). passes × Moves c.args.text.now at new next) (λ (next : Cursor). visits × passes × Moves c.args.text.now at new next) (λ next v m. (v, m.0, m.1)) c.span.ensures.visits
    (both-ok c.span.result (λ (next : Cursor). passes) (λ (next : Cursor). Moves c.args.text.now at new next) (λ (next : Cursor). passes × Moves c.args.text.now at new next) (λ next p m. (p, m)) c.span.ensures.passes c.span.ensures.reads_on.moves))
    (c.span.ensures.token (special-there o rows c.args.text.now cursor.at at set there lt) other)

pub returns-then-bytes-at-eq93-clause-stops : goal.returns-then-bytes-at-eq93-clause-stops
returns-then-bytes-at-eq93-clause-stops g c = λ set.
    let n = c.next-at.ensures in
    let is = c.as_bytes-bytes.ensures.value in
    let rows : List ℕ = c.args.reader.now.special.now in
    let at : ℕ = c.next-at.result in
    let there : IsNextAt rows c.args.text.now c.args.cursor.at at = subst (λ (t : List ℕ). IsNextAt rows t c.args.cursor.at at) is (record { value = n.value; plain = n.plain; order = n.following; within = n.within; ascii = n.ascii }) in
    let lt : at < length c.args.text.now = subst (λ (t : List ℕ). at < length t) is c.if-at-bytes.false in
    let byte : get_or c.args.text.now at 0 ≡ 93 = ap (λ (t : List ℕ). get_or t at 0) (sym is) ∙ c.if-bytes-at-eq93.true in
    on_err_weaker c.close_bracket.result
    (close-stops g.F.BrokenLinkCallback.answers (shown_options c.args.reader.now.options) (g.E.EntityLookup.replacement c.args.reader.now.entities.now) c.args.reader.now.references.now c.args.footnotes.now c.args.leaf.now rows c.args.text.now c.requires.text.same
    c.args.cursor c.args.self.now at set there c.args.sought.now c.args.callback.now c.close_bracket.new.callback lt byte) c.close_bracket.ensures.stops

pub returns-clause-stops : goal.returns-clause-stops
returns-clause-stops g c = λ set.
    let n = c.next-at.ensures in
    let is = c.as_bytes-bytes.ensures.value in
    let rows : List ℕ = c.args.reader.now.special.now in
    let at : ℕ = c.next-at.result in
    let there : IsNextAt rows c.args.text.now c.args.cursor.at at = subst (λ (t : List ℕ). IsNextAt rows t c.args.cursor.at at) is (record { value = n.value; plain = n.plain; order = n.following; within = n.within; ascii = n.ascii }) in
    on-err c.span.result _
    (span-stops g.F.BrokenLinkCallback.answers (shown_options c.args.reader.now.options) (g.E.EntityLookup.replacement c.args.reader.now.entities.now) c.args.reader.now.references.now c.args.footnotes.now c.args.leaf.now rows c.args.text.now c.requires.text.same
    c.args.cursor c.args.self.now at set there c.args.sought.now c.args.callback.now)

pub span-requires-clause-sought : goal.span-requires-clause-sought
span-requires-clause-sought g c = record {
  of_text = c.requires.sought.of_text;
  kept = still-unclosed c.args.leaf.now c.args.cursor.at c.next-at.result c.args.sought.now.unclosed c.next-at.ensures.following c.requires.sought.kept;
  paid = all-on c.args.leaf.now c.requires.text.read c.args.cursor.at c.next-at.result c.args.sought.now c.next-at.ensures.following c.requires.sought.paid;
}

pub returns-then-at-bytes-clause-finds : goal.returns-then-at-bytes-clause-finds
returns-then-at-bytes-clause-finds g c = record {
  rest = search rules;
  token = (λ k e low special other.
      let text : List ℕ = c.args.text.now in
      let at : ℕ = c.next-at.result in
      let is = c.as_bytes-bytes.ensures.value in
      let n = c.next-at.ensures in
      let there : IsNextAt c.args.reader.now.special.now text c.args.cursor.at at = subst (λ (t : List ℕ). IsNextAt c.args.reader.now.special.now t c.args.cursor.at at) is (record { value = n.value; plain = n.plain; order = n.following; within = n.within; ascii = n.ascii }) in
      let value = there.value in
      let over : length text ≤ at = subst (λ (t : List ℕ). length t ≤ at) is c.if-at-bytes.true in
      absurd (omega (arith, value, e, low, over)));
}

pub returns-then-bytes-at-eq93-clause-finds : goal.returns-then-bytes-at-eq93-clause-finds
returns-then-bytes-at-eq93-clause-finds g c =
    let text : List ℕ = c.args.text.now in
    let at : ℕ = c.next-at.result in
    let is = c.as_bytes-bytes.ensures.value in
    let following = c.next-at.ensures.following in
    let lt : at < length text = subst (λ (t : List ℕ). at < length t) is c.if-at-bytes.false in
    let byte : get_or text at 0 ≡ 93 = ap (λ (t : List ℕ). get_or t at 0) (sym is) ∙ c.if-bytes-at-eq93.true in
    let n = c.next-at.ensures in
    let there : IsNextAt c.args.reader.now.special.now text c.args.cursor.at at = subst (λ (t : List ℕ). IsNextAt c.args.reader.now.special.now t c.args.cursor.at at) is (record { value = n.value; plain = n.plain; order = n.following; within = n.within; ascii = n.ascii }) in
    let value = there.value in
    IfOk-weaker c.close_bracket.result _ _ (λ next _. record {
      rest = λ whole. absurd (omega (arith, value, whole, lt));
      token = λ k e low special other. absurd (true≢false (sym (ap (λ b. b == 93) (ap (λ i. get_or text i 0) (e ∙ sym value) ∙ byte)) ∙ other));
    }) c.close_bracket.ensures.passes

-- a fact of the result that needs a condition
if-then : {E : Type 0} (r : Result Cursor E) (A B : Type 0) (P Q : Cursor → Type 0) → (A → B → IfOk r P) → ((x : Cursor) → (A → B → P x) → Q x) → IfOk r Q
if-then (Ok x) A B P Q f q = q x f
if-then (Err e) A B P Q f q = tt

pub returns-clause-finds : goal.returns-clause-finds
returns-clause-finds g c =
    let text : List ℕ = c.args.text.now in
    let at : ℕ = c.next-at.result in
    let is = c.as_bytes-bytes.ensures.value in
    let following = c.next-at.ensures.following in
    let lt : at < length text = subst (λ (t : List ℕ). at < length t) is c.if-at-bytes.false in
    let n = c.next-at.ensures in
    let there : IsNextAt c.args.reader.now.special.now text c.args.cursor.at at = subst (λ (t : List ℕ). IsNextAt c.args.reader.now.special.now t c.args.cursor.at at) is (record { value = n.value; plain = n.plain; order = n.following; within = n.within; ascii = n.ascii }) in
    let value = there.value in
    let o : Options = shown_options c.args.reader.now.options in
    let l : Lookup = g.E.EntityLookup.replacement c.args.reader.now.entities.now in
    let Reads : ℕ → Cursor → Type 0 = λ i next. ReadsSpecial o l c.args.leaf.now (record { pending = c.args.cursor.pending; at = i }) c.args.self.now c.span.new.self next in
    if-then c.span.result (is_special o (get_or text at 0) ≡ true) ((get_or text at 0 == 93) ≡ false) (Reads at) _ c.span.ensures.token (λ next reads. record {
      rest = λ whole. absurd (omega (arith, value, whole, lt));
      token = λ k e low special other. subst (λ (i : ℕ). is_special o (get_or text i 0) ≡ true → (get_or text i 0 == 93) ≡ false → Reads i next) (value ∙ sym e) reads special other;
    })

pub returns-then-at-bytes-clause-passes : goal.returns-then-at-bytes-clause-passes
returns-then-at-bytes-clause-passes g c = record {
  moves = search rules;
  sound = c.requires.here.sound;
  ends = λ e. e;
  sought = record {
    of_text = c.requires.sought.of_text;
    kept = (let size = ap length c.as_bytes-bytes.ensures.value in
        let more = c.requires.here.more in
        still-unclosed c.args.leaf.now c.args.cursor.at (length c.as_bytes-bytes.result.now) c.args.sought.now.unclosed (omega (arith, size, more)) c.requires.sought.kept);
    paid = (let size = ap length c.as_bytes-bytes.ensures.value in
        let more = c.requires.here.more in
        all-on c.args.leaf.now c.requires.text.read c.args.cursor.at (length c.as_bytes-bytes.result.now) c.args.sought.now (omega (arith, size, more)) c.requires.sought.paid);
  };
  asks = inl refl;
  rise = none-between c.args.text.now c.args.cursor.at _ c.args.footnotes.now;
}

pub returns-then-bytes-at-eq93-clause-passes : goal.returns-then-bytes-at-eq93-clause-passes
returns-then-bytes-at-eq93-clause-passes g c =
    let text : List ℕ = c.args.text.now in
    let at : ℕ = c.next-at.result in
    let is = c.as_bytes-bytes.ensures.value in
    let following = c.next-at.ensures.following in
    let lt : at < length text = subst (λ (t : List ℕ). at < length t) is c.if-at-bytes.false in
    let byte : get_or text at 0 ≡ 93 = ap (λ (t : List ℕ). get_or t at 0) (sym is) ∙ c.if-bytes-at-eq93.true in
    IfOk-weaker c.close_bracket.result _ _ (λ next p.
    let m = p.moves in
    let further = m.further in
    record {
      moves = record { stands = m.stands; cursor = m.cursor; further = omega (arith, following, further) };
      sound = p.sound;
      ends = p.ends;
      sought = record {
        of_text = c.requires.sought.of_text;
        kept = still-unclosed c.args.leaf.now c.args.cursor.at next.at c.args.sought.now.unclosed (omega (arith, following, further)) c.requires.sought.kept;
        paid = all-on c.args.leaf.now c.requires.text.read c.args.cursor.at next.at c.args.sought.now (omega (arith, following, further)) c.requires.sought.paid;
      };
      asks = inr (c.close_bracket.ensures.asks.asks, (at, following, further, lt, byte));
      rise = one-between text c.args.cursor.at at next.at c.args.footnotes.now c.close_bracket.new.footnotes following further lt byte c.close_bracket.ensures.uses.rise;
    }) c.close_bracket.ensures.passes

pub returns-clause-passes : goal.returns-clause-passes
returns-clause-passes g c =
    let following = c.next-at.ensures.following in
    ok-by-four c.span.result _ _ _ _ _ (c.span.ensures.reads_on.sound c.requires.here.sound) c.span.ensures.reads_on.ends c.span.ensures.paid c.span.ensures.reads_on.moves (λ next sound ends paid m.
    let further = m.further in
    record {
      moves = record { stands = m.stands; cursor = m.cursor; further = omega (arith, following, further) };
      sound = sound;
      ends = ends;
      sought = record {
        of_text = c.span.ensures.of_text;
        kept = still-unclosed c.args.leaf.now c.next-at.result next.at c.span.new.sought.unclosed (omega (arith, further)) c.span.ensures.kept;
        paid = paid;
      };
      asks = inl refl;
      rise = none-between c.args.text.now c.args.cursor.at next.at c.args.footnotes.now;
    })

pub returns-then-at-bytes-clause-between : goal.returns-then-at-bytes-clause-between
returns-then-at-bytes-clause-between g c = record {
  ready = c.requires.ready;
  asks = inl refl;
  spent = λ none. (refl, none);
  footnotes = λ folded. refl;
  rise = none-between c.args.text.now c.args.cursor.at (length c.args.text.now) c.args.footnotes.now;
  steps = refl;
  of_text = c.requires.sought.of_text;
}

pub returns-then-bytes-at-eq93-clause-between : goal.returns-then-bytes-at-eq93-clause-between
returns-then-bytes-at-eq93-clause-between g c =
    let text : List ℕ = c.args.text.now in
    let at : ℕ = c.next-at.result in
    let is = c.as_bytes-bytes.ensures.value in
    let following = c.next-at.ensures.following in
    let lt : at < length text = subst (λ (t : List ℕ). at < length t) is c.if-at-bytes.false in
    let byte : get_or text at 0 ≡ 93 = ap (λ (t : List ℕ). get_or t at 0) (sym is) ∙ c.if-bytes-at-eq93.true in
    record {
      ready = c.close_bracket.ensures.asks.ready;
      asks = inr (c.close_bracket.ensures.asks.asks, (at, following, lt, lt, byte));
      spent = c.close_bracket.ensures.asks.spent;
      footnotes = c.close_bracket.ensures.uses.footnotes;
      rise = one-between text c.args.cursor.at at (length text) c.args.footnotes.now c.close_bracket.new.footnotes following lt lt byte c.close_bracket.ensures.uses.rise;
      steps = c.close_bracket.ensures.steps;
      of_text = c.requires.sought.of_text;
    }

pub returns-clause-between : goal.returns-clause-between
returns-clause-between g c = record {
  ready = c.requires.ready;
  asks = inl refl;
  spent = λ none. (refl, c.span.ensures.reads_on.expansion_left ∙ none);
  footnotes = λ folded. refl;
  rise = none-between c.args.text.now c.args.cursor.at (length c.args.text.now) c.args.footnotes.now;
  steps = c.span.ensures.reads_on.steps;
  of_text = c.span.ensures.of_text;
}
