use Rattle.std.specs.Option.{IfSome}
use Rattle.std.specs.Prelude.{is_some, option_map}
use Rattle.std.proofs.Common.{rules, ℕ, ◌≡◌, ◌+◌, ◌<◌, true≢false, refl, sym, ap, subst, ◌∙◌, drop, arith}
use Rattle.cmark_grammar.specs.Formulas.{is_dollar}
use Rattle.cmark_grammar.specs.Letters.{first_is}
use Rattle.cmark_span_scan.specs.Dollars.{IsFormulaAt, shown_formula}
use Rattle.cmark_span_scan.specs.declared.dollars.Formula.{Formula}
use Rattle.cmark_inline.proofs.FormulaSteps.{formula-appends, formula-content, sign-appends}
use Rattle.cmark_inline.proofs.Keeping.{formula-alone, keeps-puts}
use Rattle.cmark_inline.proofs.PaidSteps.{signs-found}
use Rattle.cmark_inline.specs.Paid.{DollarsPaid}
use Rattle.cmark_slots.specs.Slots.{IsContent}
use Rattle.cmark_slots.specs.Standing.{StandsAlone}
use Rattle.std.proofs.lemmas.Result.{IfOk-weaker}
use Rattle.cmark_inline.proofs.LastCalls.{ok-by-three}
use Rattle.cmark_inline.proofs.state.InlineState.dollar.Goals as goal

pub returns-in-Some-clause-token : goal.returns-in-Some-clause-token
returns-in-Some-clause-token c = λ o l cell math. ok-by-three c.put.result _ _ _ _ c.put.ensures.at c.put.ensures.end c.put.ensures.slots (λ next at end slots.
    formula-appends o l cell c.args.text.now c.args.here c.args.self.now c.put.new.self next c.in-Some.formula c.kind_of.result c.requires.byte.cursor.ordered c.requires.byte.within c.requires.dollar math
    (ap (option_map (shown_formula c.args.text.now)) (sym c.in-Some.is) ∙ c.in_ok-formula.ensures.value)
    (subst (λ r. IfSome r (λ (f : Formula). f.is_display ≡ first_is is_dollar (drop (c.args.here.at + 1) c.args.text.now))) c.in-Some.is c.in_ok-formula.ensures.kind)
    (subst (λ r. IfSome r (IsFormulaAt c.args.text.now c.args.here.at)) c.in-Some.is c.in_ok-formula.ensures.places)
    c.kind_of.ensures.value at (end ∙ sym at) slots c.put.ensures.others)

pub returns-clause-token : goal.returns-clause-token
returns-clause-token c = λ o l cell math. ok-by-three c.put-2.result _ _ _ _ c.put-2.ensures.at c.put-2.ensures.end c.put-2.ensures.slots (λ next at end slots.
    sign-appends o l cell c.args.text.now c.args.here c.args.self.now c.put-2.new.self next c.following.result c.requires.byte.cursor.ordered c.requires.byte.within c.requires.dollar math
    (ap (option_map (shown_formula c.args.text.now)) (sym c.in_default.is) ∙ c.in_ok-formula.ensures.value) c.following.ensures.value
    at (end ∙ sym at) slots c.put-2.ensures.others)

pub returns-in-Some-clause-reads_on : goal.returns-in-Some-clause-reads_on
returns-in-Some-clause-reads_on c = record {
  expansion_left = search rules;
  steps = search rules;
  keeps = IfOk-weaker c.put.result _ _ (λ _ slots. keeps-puts c.args.self.now c.put.new.self c.put.ensures.others c.args.here.pending c.args.here.at _ slots (subst (λ k. StandsAlone k) (sym c.kind_of.ensures.value) (formula-alone c.in-Some.formula.is_display c.in-Some.formula.content_start))) c.put.ensures.slots;
  moves = c.put.ensures.moves;
}

pub returns-clause-reads_on : goal.returns-clause-reads_on
returns-clause-reads_on c = record {
  expansion_left = search rules;
  steps = search rules;
  keeps = IfOk-weaker c.put-2.result _ _ (λ _ slots. keeps-puts c.args.self.now c.put-2.new.self c.put-2.ensures.others c.args.here.pending c.args.here.at _ slots ((refl, refl, refl), λ i. refl)) c.put-2.ensures.slots;
  moves = c.put-2.ensures.moves;
}

pub put-requires-clause-next : goal.put-requires-clause-next
put-requires-clause-next c =
    let formula = c.in-Some.formula in
    let places : IsFormulaAt c.args.text.now c.args.here.at formula = subst (λ r. IfSome r (IsFormulaAt c.args.text.now c.args.here.at)) c.in-Some.is c.in_ok-formula.ensures.places in
    record {
      ordered = search rules;
      is = (record { part = search rules; before = omega arith; content = subst (IsContent c.args.text.now formula.end) (sym c.kind_of.ensures.value) (formula-content c.args.text.now c.args.here.at formula places) });
      further = search rules;
      kind = search rules;
    }

pub put-requires-2-clause-next : goal.put-requires-2-clause-next
put-requires-2-clause-next c = record {
  ordered = search rules;
  is = (record { part = c.following.ensures.part; before = omega arith; content = tt });
  further = search rules;
  kind = search rules;
}

pub returns-in-Some-clause-paid : goal.returns-in-Some-clause-paid
returns-in-Some-clause-paid c =
    let reached = c.formula.ensures.visits.reached c.requires.paid.reached in
    let pays = c.formula.ensures.visits.pays c.requires.paid.reached in
    let there : IsFormulaAt c.args.text.now c.args.here.at c.in-Some.formula = subst (λ r. IfSome r (IsFormulaAt c.args.text.now c.args.here.at)) c.in-Some.is c.in_ok-formula.ensures.places in
    let paid = signs-found c.args.text.now c.args.here.at c.args.dollars.now c.formula.new.self c.in-Some.formula reached pays there c.requires.paid in
    IfOk-weaker c.put.result _ _ (λ next at. subst (λ (n : ℕ). DollarsPaid c.args.text.now n c.formula.new.self) (sym at) paid) c.put.ensures.at

pub returns-in-Some-clause-least : goal.returns-in-Some-clause-least
returns-in-Some-clause-least c = IfOk-weaker c.put.result _ _ (λ _ _ found. subst (λ r. IfSome r (λ formula. c.args.dollars.now.visited < c.formula.new.self.visited)) c.in-Some.is c.in_ok-formula.ensures.least) c.put.ensures.slots

pub returns-clause-least : goal.returns-clause-least
returns-clause-least c = IfOk-weaker c.put-2.result _ _ (λ _ _ found. absurd (true≢false (sym found ∙ ap is_some (sym (ap (option_map (shown_formula c.args.text.now)) (sym c.in_default.is) ∙ c.in_ok-formula.ensures.value))))) c.put-2.ensures.slots
