use Rattle.std.proofs.Common.{◌<◌, ◌≤◌, Some, sym, ap, ◌∙◌, subst}
use Rattle.cmark_tree.proofs.Truncating.{shortened-ends, shortened-front, shortened-escaped, shortened-plain, shortened-later}
use Rattle.cmark_tree.proofs.truncate.shorten.Goals as goal
use Rattle.cmark_tree.proofs.truncate.shorten.Goals.{else-start-to-2-via-then-start-to-2+else-escaped, else-start-to-2-via-else-start-to-2}

pub returns-then-end-to : goal.returns-then-end-to
returns-then-end-to g c = shortened-ends g.T.TreeSpan.spans c.args.to c.args.item.now (sym c.end.ensures ∙ c.if-end-to.true)

pub returns-then-start-to : goal.returns-then-start-to
returns-then-start-to g c =
    shortened-front g.T.TreeSpan.spans c.args.to c.args.item.now (λ e. c.if-end-to.false (c.end.ensures ∙ e)) (subst (λ k. k < c.args.to) c.start-start.ensures c.if-start-to.true)
    ∙ ap (λ x. Some x) (ap (λ k. g.T.TreeSpan.spans.ranged c.args.item.now k c.args.to) (sym c.start-start.ensures) ∙ sym c.set_range.ensures)

pub returns-then-escaped : goal.returns-then-escaped
returns-then-escaped g c =
    shortened-escaped g.T.TreeSpan.spans c.args.to c.args.item.now (λ e. c.if-end-to.false (c.end.ensures ∙ e)) (sym c.start-start.ensures ∙ c.if-start-to-2.true) (sym c.escaped.ensures ∙ c.if-escaped.true)
    ∙ ap (λ x. Some x) (sym c.set_range-then-escaped.ensures)

pub returns : goal.returns
returns g c = elim c.else-start-to-2.branch [
  | else-start-to-2-via-then-start-to-2+else-escaped w ↦
      shortened-plain g.T.TreeSpan.spans c.args.to c.args.item.now (λ e. c.if-end-to.false (c.end.ensures ∙ e)) (sym c.start-start.ensures ∙ w.if-start-to-2.true) (sym w.escaped.ensures ∙ w.if-escaped.false)
  | else-start-to-2-via-else-start-to-2 w ↦
      shortened-later g.T.TreeSpan.spans c.args.to c.args.item.now (λ e. c.if-end-to.false (c.end.ensures ∙ e)) (subst (λ k. c.args.to ≤ k) c.start-start.ensures c.if-start-to.false) (λ e. w.if-start-to-2.false (c.start-start.ensures ∙ e))
]
