use Rattle.std.specs.Prelude.{Some}
use Rattle.std.proofs.Common.{refl, sym, ap, subst, ◌∙◌}
use Rattle.cmark_grammar.specs.Labels.{fold}
use Rattle.cmark_leaf_text.specs.Reads.{is_cell_of}
use Rattle.cmark_values.specs.Shown.{shown_options}
use Rattle.cmark_inline.specs.Footnoted.{CountsOf, forms_footnote}
use Rattle.cmark_inline.proofs.FootnoteSteps.{counts-found, none-off}
use Rattle.cmark_inline.proofs.UsesCounted.{either-rises, kept-rise}
use Rattle.cmark_inline.proofs.footnote.referred_footnote.Goals as goal

pub returns-then-not-contains-clause-forms : goal.returns-then-not-contains-clause-forms
returns-then-not-contains-clause-forms c =
    sym (ap (forms_footnote (shown_options c.args.options) c.args.footnotes.now)
    (none-off (shown_options c.args.options) (is_cell_of c.args.leaf.now) c.args.closes_label c.args.text.now c.args.close (Some c.args.bracket) (sym (c.contains.ensures tt) ∙ c.if-not-contains.true)))

pub returns-then-not-contains-clause-counts : goal.returns-then-not-contains-clause-counts
returns-then-not-contains-clause-counts c =
    subst (λ label. CountsOf label c.args.footnotes.now c.args.footnotes.now)
    (sym (none-off (shown_options c.args.options) (is_cell_of c.args.leaf.now) c.args.closes_label c.args.text.now c.args.close (Some c.args.bracket) (sym (c.contains.ensures tt) ∙ c.if-not-contains.true)))
    (λ folded. refl)

pub returns-then-not-branch-clause-counts : goal.returns-then-not-branch-clause-counts
returns-then-not-branch-clause-counts c =
    counts-found (shown_options c.args.options) (is_cell_of c.args.leaf.now) c.is_cell.result c.args.closes_label c.args.text.now c.args.close c.args.bracket
    c.in-Some.written.now c.as_str.result.now c.args.footnotes.now c.count.new.footnotes c.in-Some.ensures.value c.is_cell.ensures (c.as_str.ensures ∙ c.in_ok-label.ensures) c.in_ok-count.ensures.counts

pub returns-clause-counts : goal.returns-clause-counts
returns-clause-counts c =
    counts-found (shown_options c.args.options) (is_cell_of c.args.leaf.now) c.is_cell.result c.args.closes_label c.args.text.now c.args.close c.args.bracket
    c.in-Some.written.now c.as_str.result.now c.args.footnotes.now c.count.new.footnotes c.in-Some.ensures.value c.is_cell.ensures (c.as_str.ensures ∙ c.in_ok-label.ensures) c.in_ok-count.ensures.counts

pub returns-then-not-contains-clause-rise : goal.returns-then-not-contains-clause-rise
returns-then-not-contains-clause-rise c = kept-rise 1 c.args.footnotes.now c.args.footnotes.now (λ folded. refl)

pub returns-in_default-clause-rise : goal.returns-in_default-clause-rise
returns-in_default-clause-rise c = kept-rise 1 c.args.footnotes.now c.args.footnotes.now (λ folded. refl)

pub returns-in_err-label-clause-rise : goal.returns-in_err-label-clause-rise
returns-in_err-label-clause-rise c = kept-rise 1 c.args.footnotes.now c.args.footnotes.now (λ folded. refl)

pub returns-in_err-count-clause-rise : goal.returns-in_err-count-clause-rise
returns-in_err-count-clause-rise c = either-rises (fold c.as_str.result.now) c.args.footnotes.now c.count.new.footnotes c.count.result c.count.ensures.counts c.count.ensures.refused

pub returns-then-not-branch-clause-rise : goal.returns-then-not-branch-clause-rise
returns-then-not-branch-clause-rise c = either-rises (fold c.as_str.result.now) c.args.footnotes.now c.count.new.footnotes c.count.result c.count.ensures.counts c.count.ensures.refused

pub returns-in_err-name-clause-rise : goal.returns-in_err-name-clause-rise
returns-in_err-name-clause-rise c = either-rises (fold c.as_str.result.now) c.args.footnotes.now c.count.new.footnotes c.count.result c.count.ensures.counts c.count.ensures.refused

pub returns-clause-rise : goal.returns-clause-rise
returns-clause-rise c = either-rises (fold c.as_str.result.now) c.args.footnotes.now c.count.new.footnotes c.count.result c.count.ensures.counts c.count.ensures.refused
