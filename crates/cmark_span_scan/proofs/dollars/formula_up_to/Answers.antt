use Rattle.std.proofs.Common.{◌+◌, ◌-◌, sym, ap, subst, ◌∙◌, drop, get_or, List, ℕ}
use Rattle.cmark_grammar.specs.Formulas.{closes_formula}
use Rattle.cmark_span_scan.specs.Dollars.{IsFormulaAt}
use Rattle.cmark_span_scan.proofs.DollarSteps.{closed-places}
use Rattle.cmark_span_scan.proofs.dollars.formula_up_to.Goals as goal

pub returns-clause-places : goal.returns-clause-places
returns-clause-places c = λ at e.
    let bytes = c.as_bytes.ensures.value in
    let closes = ap (λ (bs : List ℕ). closes_formula c.args.is_display (get_or bs (c.args.closer - 1) 0) (drop (c.args.closer + 1) bs)) (sym bytes) ∙ sym c.closes.ensures ∙ c.if-not-closes.false in
    subst (λ n. IsFormulaAt c.args.text.now at (record { content_start = c.args.start; content_end = c.args.closer; end = c.args.closer + n; is_display = c.args.is_display })) (sym c.signs_of.ensures.value)
    (closed-places c.args.text.now c.utf8.text c.args.is_display at c.args.start c.args.closer c.requires.starts c.requires.ordered c.requires.within c.requires.dollar closes e)
