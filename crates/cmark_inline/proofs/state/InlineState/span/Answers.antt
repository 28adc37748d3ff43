use Rattle.std.proofs.Common.{arith, ◌+◌, ◌≡◌, ◌⊎◌, inl, inr, ⊎_elim, true, false, ℕ, List, get_or, refl, sym, ap, subst, ◌∙◌, rules}
use Rattle.std.proofs.lemmas.Result.{IfOk-weaker}
use Rattle.cmark_grammar.specs.Answers.{Lookup}
use Rattle.cmark_grammar.specs.InlineTokens.{bracket}
use Rattle.cmark_grammar.specs.Items.{Opens}
use Rattle.cmark_grammar.specs.Lines.{is_content}
use Rattle.cmark_grammar.specs.Options.{Options}
use Rattle.cmark_inline_model.specs.SpecialBytes.{is_special}
use Rattle.cmark_leaf_text.specs.Reads.{is_cell_of}
use Rattle.cmark_values.specs.Shown.{shown_options}
use Rattle.cmark_inline.specs.Closers.{OpensAs}
use Rattle.cmark_inline.specs.Tokens.{PutsBracket}
use Rattle.cmark_inline.proofs.PaidSteps.{all-moved, markup-moved, runs-moved, signs-moved}
use Rattle.cmark_inline.proofs.SpanReads.{appends, appends-quote, backslash-reads, backticks-read, opens, passes-or-appends, passes-or-opens, passes-over, reads-leaf, run-reads}
use Rattle.cmark_inline.proofs.SpecialSteps.{has_call, link-opens, other-special, smart-special, math-special}
use Rattle.cmark_inline.proofs.Keeping.{keeps-quote}
use Rattle.cmark_inline.proofs.LastCalls.{ok-by-three}
use Rattle.cmark_inline.proofs.LeastCounted.{always-ok, by-one, by-two, none-passes, none-visits, other-than, other-than-two}
use Rattle.cmark_inline.proofs.state.InlineState.span.Goals as goal

pub returns-in-10-clause-token : goal.returns-in-10-clause-token
returns-in-10-clause-token g c = λ special other.
    let o : Options = shown_options c.args.reader.now.options in
    let l : Lookup = g.E.EntityLookup.replacement c.args.reader.now.entities.now in
    IfOk-weaker c.line_ending.result _ _ (appends o l c.args.leaf.now c.args.text.now c.requires.text.same c.args.here c.args.self.now c.line_ending.new.self)
    (c.line_ending.ensures.token o l (is_cell_of c.args.leaf.now) (subst (λ (bs : List ℕ). (get_or bs c.args.here.at 0 ≡ 10) ⊎ (get_or bs c.args.here.at 0 ≡ 13)) c.as_bytes.ensures.value c.in-10.is))

pub returns-in-92-clause-token : goal.returns-in-92-clause-token
returns-in-92-clause-token g c = λ special other.
    let o : Options = shown_options c.args.reader.now.options in
    let l : Lookup = g.E.EntityLookup.replacement c.args.reader.now.entities.now in
    IfOk-weaker c.backslash.result _ _ (λ next. backslash-reads o l c.args.leaf.now c.args.text.now c.requires.text.same c.args.here c.args.self.now c.backslash.new.self next c.is_cell.result c.is_cell.ensures)
    (c.backslash.ensures.token o l (subst (λ (bs : List ℕ). get_or bs c.args.here.at 0 ≡ 92) c.as_bytes.ensures.value c.in-92.is))

pub returns-in-38-clause-token : goal.returns-in-38-clause-token
returns-in-38-clause-token g c = λ special other.
    let o : Options = shown_options c.args.reader.now.options in
    let l : Lookup = g.E.EntityLookup.replacement c.args.reader.now.entities.now in
    IfOk-weaker c.entity.result _ _ (passes-or-appends o l c.args.leaf.now c.args.text.now c.requires.text.same c.args.here c.args.self.now c.entity.new.self)
    (c.entity.ensures.token o (is_cell_of c.args.leaf.now) (subst (λ (bs : List ℕ). get_or bs c.args.here.at 0 ≡ 38) c.as_bytes.ensures.value c.in-38.is))

pub returns-in-96-clause-token : goal.returns-in-96-clause-token
returns-in-96-clause-token g c = λ special other.
    let o : Options = shown_options c.args.reader.now.options in
    let l : Lookup = g.E.EntityLookup.replacement c.args.reader.now.entities.now in
    IfOk-weaker c.backticks.result _ _ (backticks-read o l c.args.leaf.now c.args.text.now c.requires.text.same c.args.here c.args.self.now c.backticks.new.self)
    (c.backticks.ensures.token o l (is_cell_of c.args.leaf.now) (subst (λ (bs : List ℕ). get_or bs c.args.here.at 0 ≡ 96) c.as_bytes.ensures.value c.in-96.is))

pub returns-in-60-clause-token : goal.returns-in-60-clause-token
returns-in-60-clause-token g c = λ special other.
    let l : Lookup = g.E.EntityLookup.replacement c.args.reader.now.entities.now in
    IfOk-weaker c.less_than.result _ _ (λ next h. inl h)
    (c.less_than.ensures.token l (subst (λ (bs : List ℕ). get_or bs c.args.here.at 0 ≡ 60) c.as_bytes.ensures.value c.in-60.is))

pub returns-in-33-clause-token : goal.returns-in-33-clause-token
returns-in-33-clause-token g c = λ special other.
    let o : Options = shown_options c.args.reader.now.options in
    let l : Lookup = g.E.EntityLookup.replacement c.args.reader.now.entities.now in
    IfOk-weaker c.exclamation.result _ _ (passes-or-opens o l c.args.leaf.now c.args.text.now c.requires.text.same c.args.here c.args.self.now c.exclamation.new.self)
    (c.exclamation.ensures.token l (is_cell_of c.args.leaf.now) (subst (λ (bs : List ℕ). get_or bs c.args.here.at 0 ≡ 33) c.as_bytes.ensures.value c.in-33.is))

pub returns-in-36-clause-token : goal.returns-in-36-clause-token
returns-in-36-clause-token g c = λ special other.
    let o : Options = shown_options c.args.reader.now.options in
    let l : Lookup = g.E.EntityLookup.replacement c.args.reader.now.entities.now in
    let is = subst (λ (bs : List ℕ). get_or bs c.args.here.at 0 ≡ 36) c.as_bytes.ensures.value c.in-36.is in
    IfOk-weaker c.dollar.result _ _ (appends o l c.args.leaf.now c.args.text.now c.requires.text.same c.args.here c.args.self.now c.dollar.new.self)
    (c.dollar.ensures.token o l (is_cell_of c.args.leaf.now) (math-special o (get_or c.args.text.now c.args.here.at 0) is special))

pub returns-in-46-clause-token : goal.returns-in-46-clause-token
returns-in-46-clause-token g c = λ special other.
    let o : Options = shown_options c.args.reader.now.options in
    let l : Lookup = g.E.EntityLookup.replacement c.args.reader.now.entities.now in
    let is = subst (λ (bs : List ℕ). get_or bs c.args.here.at 0 ≡ 46) c.as_bytes.ensures.value c.in-46.is in
    IfOk-weaker c.dots.result _ _ (passes-or-appends o l c.args.leaf.now c.args.text.now c.requires.text.same c.args.here c.args.self.now c.dots.new.self)
    (c.dots.ensures.token o l (is_cell_of c.args.leaf.now) (smart-special o (get_or c.args.text.now c.args.here.at 0) (inl is) special) is)

pub returns-in-45-clause-token : goal.returns-in-45-clause-token
returns-in-45-clause-token g c = λ special other.
    let o : Options = shown_options c.args.reader.now.options in
    let l : Lookup = g.E.EntityLookup.replacement c.args.reader.now.entities.now in
    let is = subst (λ (bs : List ℕ). get_or bs c.args.here.at 0 ≡ 45) c.as_bytes.ensures.value c.in-45.is in
    IfOk-weaker c.hyphens.result _ _ (passes-or-appends o l c.args.leaf.now c.args.text.now c.requires.text.same c.args.here c.args.self.now c.hyphens.new.self)
    (c.hyphens.ensures.token o l (is_cell_of c.args.leaf.now) (smart-special o (get_or c.args.text.now c.args.here.at 0) (inr (inl is)) special) is)

pub returns-in-34-clause-token : goal.returns-in-34-clause-token
returns-in-34-clause-token g c = λ special other.
    let o : Options = shown_options c.args.reader.now.options in
    let l : Lookup = g.E.EntityLookup.replacement c.args.reader.now.entities.now in
    let is = subst (λ (bs : List ℕ). (get_or bs c.args.here.at 0 ≡ 34) ⊎ (get_or bs c.args.here.at 0 ≡ 39)) c.as_bytes.ensures.value c.in-34.is in
    IfOk-weaker c.quote.result _ _ (appends-quote o l c.args.leaf.now c.args.text.now c.requires.text.same c.args.here c.args.self.now c.quote.new.self)
    (c.quote.ensures.token o l (is_cell_of c.args.leaf.now) (smart-special o (get_or c.args.text.now c.args.here.at 0) (inr (inr is)) special) is)

pub returns-in-91-clause-token : goal.returns-in-91-clause-token
returns-in-91-clause-token g c = λ special other.
    let o : Options = shown_options c.args.reader.now.options in
    let l : Lookup = g.E.EntityLookup.replacement c.args.reader.now.entities.now in
    let text : List ℕ = c.args.text.now in
    let at : ℕ = c.args.here.at in
    let is : get_or text at 0 ≡ 91 = subst (λ (bs : List ℕ). get_or bs at 0 ≡ 91) c.as_bytes.ensures.value c.in-91.is in
    ok-by-three c.open_bracket.result _ _ _ _ c.open_bracket.ensures.at c.open_bracket.ensures.puts c.open_bracket.ensures.opens (λ next places puts opened.
    let e : at + 1 ≡ next.at = sym c.following-inside.ensures.value ∙ sym places.1 in
    opens o l c.args.leaf.now text c.requires.text.same c.args.here c.args.self.now c.open_bracket.new.self next
    (record {
      is_image = false;
      token = link-opens o l (is_cell_of c.args.leaf.now) text at c.requires.byte.within is ∙ ap (λ k. Opens (bracket false at k)) e;
      inside = sym e;
      bytes = λ k low high. ap (λ n. is_content (get_or text n 0)) (let q : k ≡ at = omega (arith, low, high, e) in q) ∙ ap is_content is;
      pending = places.0 ∙ sym places.1;
      puts = subst (λ k. PutsBracket false c.args.here.pending at k c.args.self.now c.open_bracket.new.self) (sym places.1) puts;
      opens = subst (λ k. OpensAs o.wikilinks false text at k c.args.self.now c.open_bracket.new.self) (sym places.1) opened;
    }))

pub returns-in_default-clause-token : goal.returns-in_default-clause-token
returns-in_default-clause-token g c = λ special other.
    let o : Options = shown_options c.args.reader.now.options in
    let l : Lookup = g.E.EntityLookup.replacement c.args.reader.now.entities.now in
    let b : ℕ = get_or c.as_bytes.result.now c.args.here.at 0 in
    let same : get_or c.args.text.now c.args.here.at 0 ≡ b = sym (ap (λ (bs : List ℕ). get_or bs c.args.here.at 0) c.as_bytes.ensures.value) in
    let uncalled : has_call b ≡ false = search (c.in_default, same, other, rules) in
    ⊎_elim
    (λ m. IfOk-weaker c.run.result _ _ (run-reads o l c.args.leaf.now c.args.text.now c.requires.text.same c.args.here c.args.self.now c.run.new.self) (c.run.ensures.token l (is_cell_of c.args.leaf.now) same m))
    (λ m. IfOk-weaker c.run.result _ _ (passes-over o l c.args.leaf.now c.args.text.now c.requires.text.same c.args.here c.args.self.now c.run.new.self) (c.run.ensures.others l (is_cell_of c.args.leaf.now) same m))
    (other-special o b uncalled (sym (ap (is_special o) same) ∙ special))

pub returns-in-34-clause-reads_on : goal.returns-in-34-clause-reads_on
returns-in-34-clause-reads_on g c =
    let o : Options = record (shown_options c.args.reader.now.options) { smart_punctuation = true } in
    let l : Lookup = g.E.EntityLookup.replacement c.args.reader.now.entities.now in
    let is = subst (λ (bs : List ℕ). (get_or bs c.args.here.at 0 ≡ 34) ⊎ (get_or bs c.args.here.at 0 ≡ 39)) c.as_bytes.ensures.value c.in-34.is in
    record {
      expansion_left = c.quote.ensures.expansion_left;
      steps = c.quote.ensures.steps;
      sound = (λ h. IfOk-weaker c.quote.result _ _ (λ next a. (keeps-quote o l false c.args.text.now c.args.here c.args.self.now c.quote.new.self next a).sound h) (c.quote.ensures.token o l false refl is));
      ends = (IfOk-weaker c.quote.result _ _ (λ next a. (keeps-quote o l false c.args.text.now c.args.here c.args.self.now c.quote.new.self next a).ends c.args.leaf.now) (c.quote.ensures.token o l false refl is));
      moves = c.quote.ensures.moves;
    }

pub dollar-requires-clause-dollar : goal.dollar-requires-clause-dollar
dollar-requires-clause-dollar g c = subst (λ (bs : List ℕ). get_or bs c.args.here.at 0 ≡ 36) c.as_bytes.ensures.value c.in-36.is

pub open_bracket-requires-clause-part : goal.open_bracket-requires-clause-part
open_bracket-requires-clause-part g c = c.following-inside.ensures.part

pub returns-in-10-clause-paid : goal.returns-in-10-clause-paid
returns-in-10-clause-paid g c = all-moved c.args.leaf.now c.requires.text.read c.args.text.now c.args.here.at c.line_ending.new.self c.args.sought.now c.line_ending.result c.line_ending.ensures.reads_on.moves c.requires.sought.paid

pub returns-in-92-clause-paid : goal.returns-in-92-clause-paid
returns-in-92-clause-paid g c = all-moved c.args.leaf.now c.requires.text.read c.args.text.now c.args.here.at c.backslash.new.self c.args.sought.now c.backslash.result c.backslash.ensures.reads_on.moves c.requires.sought.paid

pub returns-in-38-clause-paid : goal.returns-in-38-clause-paid
returns-in-38-clause-paid g c = all-moved c.args.leaf.now c.requires.text.read c.args.text.now c.args.here.at c.entity.new.self c.args.sought.now c.entity.result c.entity.ensures.reads_on.moves c.requires.sought.paid

pub returns-in-33-clause-paid : goal.returns-in-33-clause-paid
returns-in-33-clause-paid g c = all-moved c.args.leaf.now c.requires.text.read c.args.text.now c.args.here.at c.exclamation.new.self c.args.sought.now c.exclamation.result c.exclamation.ensures.reads_on.moves c.requires.sought.paid

pub returns-in-91-clause-paid : goal.returns-in-91-clause-paid
returns-in-91-clause-paid g c = all-moved c.args.leaf.now c.requires.text.read c.args.text.now c.args.here.at c.open_bracket.new.self c.args.sought.now c.open_bracket.result c.open_bracket.ensures.reads_on.moves c.requires.sought.paid

pub returns-in-46-clause-paid : goal.returns-in-46-clause-paid
returns-in-46-clause-paid g c = all-moved c.args.leaf.now c.requires.text.read c.args.text.now c.args.here.at c.dots.new.self c.args.sought.now c.dots.result c.dots.ensures.reads_on.moves c.requires.sought.paid

pub returns-in-45-clause-paid : goal.returns-in-45-clause-paid
returns-in-45-clause-paid g c = all-moved c.args.leaf.now c.requires.text.read c.args.text.now c.args.here.at c.hyphens.new.self c.args.sought.now c.hyphens.result c.hyphens.ensures.reads_on.moves c.requires.sought.paid

pub returns-in-34-clause-paid : goal.returns-in-34-clause-paid
returns-in-34-clause-paid g c = all-moved c.args.leaf.now c.requires.text.read c.args.text.now c.args.here.at c.quote.new.self c.args.sought.now c.quote.result c.quote.ensures.moves c.requires.sought.paid

pub returns-in_default-clause-paid : goal.returns-in_default-clause-paid
returns-in_default-clause-paid g c = all-moved c.args.leaf.now c.requires.text.read c.args.text.now c.args.here.at c.run.new.self c.args.sought.now c.run.result c.run.ensures.reads_on.moves c.requires.sought.paid

pub returns-in-96-clause-paid : goal.returns-in-96-clause-paid
returns-in-96-clause-paid g c = runs-moved c.args.leaf.now c.requires.text.read c.args.text.now c.requires.text.same c.args.here.at c.backticks.new.self c.args.sought.now c.backticks.new.runs c.backticks.result c.backticks.ensures.reads_on.moves c.backticks.ensures.paid c.requires.sought.paid

pub returns-in-60-clause-paid : goal.returns-in-60-clause-paid
returns-in-60-clause-paid g c = markup-moved c.args.leaf.now c.requires.text.read c.args.text.now c.args.here.at c.less_than.new.self c.args.sought.now c.less_than.new.unclosed c.less_than.result c.less_than.ensures.reads_on.moves c.less_than.ensures.paid c.requires.sought.paid

pub returns-in-36-clause-paid : goal.returns-in-36-clause-paid
returns-in-36-clause-paid g c = signs-moved c.args.leaf.now c.requires.text.read c.args.text.now c.requires.text.same c.args.here.at c.dollar.new.self c.args.sought.now c.dollar.new.dollars c.dollar.result c.dollar.ensures.reads_on.moves c.dollar.ensures.paid c.requires.sought.paid

pub returns-in-10-clause-visits : goal.returns-in-10-clause-visits
returns-in-10-clause-visits g c = always-ok c.line_ending.result (none-visits c.args.text.now c.args.here.at c.args.sought.now c.args.sought.now refl refl (by-two c.args.text.now c.args.here.at 10 13 refl refl (subst (λ (bs : List ℕ). (get_or bs c.args.here.at 0 ≡ 10) ⊎ (get_or bs c.args.here.at 0 ≡ 13)) c.as_bytes.ensures.value c.in-10.is)))

pub returns-in-92-clause-visits : goal.returns-in-92-clause-visits
returns-in-92-clause-visits g c = always-ok c.backslash.result (none-visits c.args.text.now c.args.here.at c.args.sought.now c.args.sought.now refl refl (by-one c.args.text.now c.args.here.at 92 refl (subst (λ (bs : List ℕ). get_or bs c.args.here.at 0 ≡ 92) c.as_bytes.ensures.value c.in-92.is)))

pub returns-in-38-clause-visits : goal.returns-in-38-clause-visits
returns-in-38-clause-visits g c = always-ok c.entity.result (none-visits c.args.text.now c.args.here.at c.args.sought.now c.args.sought.now refl refl (by-one c.args.text.now c.args.here.at 38 refl (subst (λ (bs : List ℕ). get_or bs c.args.here.at 0 ≡ 38) c.as_bytes.ensures.value c.in-38.is)))

pub returns-in-60-clause-visits : goal.returns-in-60-clause-visits
returns-in-60-clause-visits g c = always-ok c.less_than.result (none-visits c.args.text.now c.args.here.at c.args.sought.now (record c.args.sought.now { unclosed = c.less_than.new.unclosed }) refl refl (by-one c.args.text.now c.args.here.at 60 refl (subst (λ (bs : List ℕ). get_or bs c.args.here.at 0 ≡ 60) c.as_bytes.ensures.value c.in-60.is)))

pub returns-in-33-clause-visits : goal.returns-in-33-clause-visits
returns-in-33-clause-visits g c = always-ok c.exclamation.result (none-visits c.args.text.now c.args.here.at c.args.sought.now c.args.sought.now refl refl (by-one c.args.text.now c.args.here.at 33 refl (subst (λ (bs : List ℕ). get_or bs c.args.here.at 0 ≡ 33) c.as_bytes.ensures.value c.in-33.is)))

pub returns-in-91-clause-visits : goal.returns-in-91-clause-visits
returns-in-91-clause-visits g c = always-ok c.open_bracket.result (none-visits c.args.text.now c.args.here.at c.args.sought.now c.args.sought.now refl refl (by-one c.args.text.now c.args.here.at 91 refl (subst (λ (bs : List ℕ). get_or bs c.args.here.at 0 ≡ 91) c.as_bytes.ensures.value c.in-91.is)))

pub returns-in-46-clause-visits : goal.returns-in-46-clause-visits
returns-in-46-clause-visits g c = always-ok c.dots.result (none-visits c.args.text.now c.args.here.at c.args.sought.now c.args.sought.now refl refl (by-one c.args.text.now c.args.here.at 46 refl (subst (λ (bs : List ℕ). get_or bs c.args.here.at 0 ≡ 46) c.as_bytes.ensures.value c.in-46.is)))

pub returns-in-45-clause-visits : goal.returns-in-45-clause-visits
returns-in-45-clause-visits g c = always-ok c.hyphens.result (none-visits c.args.text.now c.args.here.at c.args.sought.now c.args.sought.now refl refl (by-one c.args.text.now c.args.here.at 45 refl (subst (λ (bs : List ℕ). get_or bs c.args.here.at 0 ≡ 45) c.as_bytes.ensures.value c.in-45.is)))

pub returns-in-34-clause-visits : goal.returns-in-34-clause-visits
returns-in-34-clause-visits g c = always-ok c.quote.result (none-visits c.args.text.now c.args.here.at c.args.sought.now c.args.sought.now refl refl (by-two c.args.text.now c.args.here.at 34 39 refl refl (subst (λ (bs : List ℕ). (get_or bs c.args.here.at 0 ≡ 34) ⊎ (get_or bs c.args.here.at 0 ≡ 39)) c.as_bytes.ensures.value c.in-34.is)))

pub returns-in_default-clause-visits : goal.returns-in_default-clause-visits
returns-in_default-clause-visits g c =
    let same : get_or c.args.text.now c.args.here.at 0 ≡ get_or c.as_bytes.result.now c.args.here.at 0 = sym (ap (λ (bs : List ℕ). get_or bs c.args.here.at 0) c.as_bytes.ensures.value) in
    let tick : get_or c.as_bytes.result.now c.args.here.at 0 ≡ 96 → ⊥ = search (c.in_default, rules) in
    let sign : get_or c.as_bytes.result.now c.args.here.at 0 ≡ 36 → ⊥ = search (c.in_default, rules) in
    always-ok c.run.result (none-visits c.args.text.now c.args.here.at c.args.sought.now c.args.sought.now refl refl ((λ e. tick (sym same ∙ e)), λ e. sign (sym same ∙ e)))

pub returns-in-96-clause-visits : goal.returns-in-96-clause-visits
returns-in-96-clause-visits g c =
    let is = subst (λ (bs : List ℕ). get_or bs c.args.here.at 0 ≡ 96) c.as_bytes.ensures.value c.in-96.is in
    IfOk-weaker c.backticks.result _ _ (λ next least. record { runs = c.backticks.ensures.grows; signs = omega arith; code = λ e. least; formula = λ e. absurd (let q : 96 ≡ 36 = sym is ∙ e in omega (arith, q)) }) c.backticks.ensures.least

pub returns-in-36-clause-visits : goal.returns-in-36-clause-visits
returns-in-36-clause-visits g c =
    let is = subst (λ (bs : List ℕ). get_or bs c.args.here.at 0 ≡ 36) c.as_bytes.ensures.value c.in-36.is in
    IfOk-weaker c.dollar.result _ _ (λ next least. record { runs = omega arith; signs = c.dollar.ensures.grows; code = λ e. absurd (let q : 36 ≡ 96 = sym is ∙ e in omega (arith, q)); formula = λ e. least }) c.dollar.ensures.least

pub returns-in-10-clause-passes : goal.returns-in-10-clause-passes
returns-in-10-clause-passes g c = always-ok c.line_ending.result (none-passes (shown_options c.args.reader.now.options).email_autolinks c.args.leaf.now c.args.text.now c.args.here.at c.args.sought.now.unclosed c.requires.text.same (other-than-two c.args.text.now c.args.here.at 10 13 refl refl (subst (λ (bs : List ℕ). (get_or bs c.args.here.at 0 ≡ 10) ⊎ (get_or bs c.args.here.at 0 ≡ 13)) c.as_bytes.ensures.value c.in-10.is)))

pub returns-in-92-clause-passes : goal.returns-in-92-clause-passes
returns-in-92-clause-passes g c = always-ok c.backslash.result (none-passes (shown_options c.args.reader.now.options).email_autolinks c.args.leaf.now c.args.text.now c.args.here.at c.args.sought.now.unclosed c.requires.text.same (other-than c.args.text.now c.args.here.at 92 refl (subst (λ (bs : List ℕ). get_or bs c.args.here.at 0 ≡ 92) c.as_bytes.ensures.value c.in-92.is)))

pub returns-in-38-clause-passes : goal.returns-in-38-clause-passes
returns-in-38-clause-passes g c = always-ok c.entity.result (none-passes (shown_options c.args.reader.now.options).email_autolinks c.args.leaf.now c.args.text.now c.args.here.at c.args.sought.now.unclosed c.requires.text.same (other-than c.args.text.now c.args.here.at 38 refl (subst (λ (bs : List ℕ). get_or bs c.args.here.at 0 ≡ 38) c.as_bytes.ensures.value c.in-38.is)))

pub returns-in-33-clause-passes : goal.returns-in-33-clause-passes
returns-in-33-clause-passes g c = always-ok c.exclamation.result (none-passes (shown_options c.args.reader.now.options).email_autolinks c.args.leaf.now c.args.text.now c.args.here.at c.args.sought.now.unclosed c.requires.text.same (other-than c.args.text.now c.args.here.at 33 refl (subst (λ (bs : List ℕ). get_or bs c.args.here.at 0 ≡ 33) c.as_bytes.ensures.value c.in-33.is)))

pub returns-in-91-clause-passes : goal.returns-in-91-clause-passes
returns-in-91-clause-passes g c = always-ok c.open_bracket.result (none-passes (shown_options c.args.reader.now.options).email_autolinks c.args.leaf.now c.args.text.now c.args.here.at c.args.sought.now.unclosed c.requires.text.same (other-than c.args.text.now c.args.here.at 91 refl (subst (λ (bs : List ℕ). get_or bs c.args.here.at 0 ≡ 91) c.as_bytes.ensures.value c.in-91.is)))

pub returns-in-46-clause-passes : goal.returns-in-46-clause-passes
returns-in-46-clause-passes g c = always-ok c.dots.result (none-passes (shown_options c.args.reader.now.options).email_autolinks c.args.leaf.now c.args.text.now c.args.here.at c.args.sought.now.unclosed c.requires.text.same (other-than c.args.text.now c.args.here.at 46 refl (subst (λ (bs : List ℕ). get_or bs c.args.here.at 0 ≡ 46) c.as_bytes.ensures.value c.in-46.is)))

pub returns-in-45-clause-passes : goal.returns-in-45-clause-passes
returns-in-45-clause-passes g c = always-ok c.hyphens.result (none-passes (shown_options c.args.reader.now.options).email_autolinks c.args.leaf.now c.args.text.now c.args.here.at c.args.sought.now.unclosed c.requires.text.same (other-than c.args.text.now c.args.here.at 45 refl (subst (λ (bs : List ℕ). get_or bs c.args.here.at 0 ≡ 45) c.as_bytes.ensures.value c.in-45.is)))

pub returns-in-34-clause-passes : goal.returns-in-34-clause-passes
returns-in-34-clause-passes g c = always-ok c.quote.result (none-passes (shown_options c.args.reader.now.options).email_autolinks c.args.leaf.now c.args.text.now c.args.here.at c.args.sought.now.unclosed c.requires.text.same (other-than-two c.args.text.now c.args.here.at 34 39 refl refl (subst (λ (bs : List ℕ). (get_or bs c.args.here.at 0 ≡ 34) ⊎ (get_or bs c.args.here.at 0 ≡ 39)) c.as_bytes.ensures.value c.in-34.is)))

pub returns-in-96-clause-passes : goal.returns-in-96-clause-passes
returns-in-96-clause-passes g c = always-ok c.backticks.result (none-passes (shown_options c.args.reader.now.options).email_autolinks c.args.leaf.now c.args.text.now c.args.here.at c.args.sought.now.unclosed c.requires.text.same (other-than c.args.text.now c.args.here.at 96 refl (subst (λ (bs : List ℕ). get_or bs c.args.here.at 0 ≡ 96) c.as_bytes.ensures.value c.in-96.is)))

pub returns-in-36-clause-passes : goal.returns-in-36-clause-passes
returns-in-36-clause-passes g c = always-ok c.dollar.result (none-passes (shown_options c.args.reader.now.options).email_autolinks c.args.leaf.now c.args.text.now c.args.here.at c.args.sought.now.unclosed c.requires.text.same (other-than c.args.text.now c.args.here.at 36 refl (subst (λ (bs : List ℕ). get_or bs c.args.here.at 0 ≡ 36) c.as_bytes.ensures.value c.in-36.is)))

pub returns-in-60-clause-passes : goal.returns-in-60-clause-passes
returns-in-60-clause-passes g c = c.less_than.ensures.passes

pub returns-in_default-clause-passes : goal.returns-in_default-clause-passes
returns-in_default-clause-passes g c =
    let same : get_or c.args.text.now c.args.here.at 0 ≡ get_or c.as_bytes.result.now c.args.here.at 0 = sym (ap (λ (bs : List ℕ). get_or bs c.args.here.at 0) c.as_bytes.ensures.value) in
    let less : get_or c.as_bytes.result.now c.args.here.at 0 ≡ 60 → ⊥ = search (c.in_default, rules) in
    always-ok c.run.result (none-passes (shown_options c.args.reader.now.options).email_autolinks c.args.leaf.now c.args.text.now c.args.here.at c.args.sought.now.unclosed c.requires.text.same (λ e. less (sym same ∙ e)))

pub returns-in-10-clause-reads_on : goal.returns-in-10-clause-reads_on
returns-in-10-clause-reads_on g c = reads-leaf c.args.leaf.now c.args.text.now c.args.here c.args.self.now c.line_ending.new.self c.line_ending.result c.line_ending.ensures.reads_on

pub returns-in-92-clause-reads_on : goal.returns-in-92-clause-reads_on
returns-in-92-clause-reads_on g c = reads-leaf c.args.leaf.now c.args.text.now c.args.here c.args.self.now c.backslash.new.self c.backslash.result c.backslash.ensures.reads_on

pub returns-in-38-clause-reads_on : goal.returns-in-38-clause-reads_on
returns-in-38-clause-reads_on g c = reads-leaf c.args.leaf.now c.args.text.now c.args.here c.args.self.now c.entity.new.self c.entity.result c.entity.ensures.reads_on

pub returns-in-96-clause-reads_on : goal.returns-in-96-clause-reads_on
returns-in-96-clause-reads_on g c = reads-leaf c.args.leaf.now c.args.text.now c.args.here c.args.self.now c.backticks.new.self c.backticks.result c.backticks.ensures.reads_on

pub returns-in-33-clause-reads_on : goal.returns-in-33-clause-reads_on
returns-in-33-clause-reads_on g c = reads-leaf c.args.leaf.now c.args.text.now c.args.here c.args.self.now c.exclamation.new.self c.exclamation.result c.exclamation.ensures.reads_on

pub returns-in-36-clause-reads_on : goal.returns-in-36-clause-reads_on
returns-in-36-clause-reads_on g c = reads-leaf c.args.leaf.now c.args.text.now c.args.here c.args.self.now c.dollar.new.self c.dollar.result c.dollar.ensures.reads_on

pub returns-in-46-clause-reads_on : goal.returns-in-46-clause-reads_on
returns-in-46-clause-reads_on g c = reads-leaf c.args.leaf.now c.args.text.now c.args.here c.args.self.now c.dots.new.self c.dots.result c.dots.ensures.reads_on

pub returns-in-45-clause-reads_on : goal.returns-in-45-clause-reads_on
returns-in-45-clause-reads_on g c = reads-leaf c.args.leaf.now c.args.text.now c.args.here c.args.self.now c.hyphens.new.self c.hyphens.result c.hyphens.ensures.reads_on

pub returns-in-91-clause-reads_on : goal.returns-in-91-clause-reads_on
returns-in-91-clause-reads_on g c = reads-leaf c.args.leaf.now c.args.text.now c.args.here c.args.self.now c.open_bracket.new.self c.open_bracket.result c.open_bracket.ensures.reads_on

pub returns-in_default-clause-reads_on : goal.returns-in_default-clause-reads_on
returns-in_default-clause-reads_on g c = reads-leaf c.args.leaf.now c.args.text.now c.args.here c.args.self.now c.run.new.self c.run.result c.run.ensures.reads_on

pub returns-in-60-clause-reads_on : goal.returns-in-60-clause-reads_on
returns-in-60-clause-reads_on g c = c.less_than.ensures.reads_on
