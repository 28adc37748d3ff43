use Rattle.std.proofs.Common.{◌≡◌, ◌+◌, ◌≤◌, length, arith, sym, ap, ◌∙◌, subst}
use Rattle.std.specs.Str.{IsCharBoundary}
use Rattle.cmark_grammar.specs.Rows.{begin_of, start_of}
use Rattle.cmark_line_rules.specs.Rests.{row_of}
use Rattle.cmark_line_rules.proofs.RestSteps.{start-content_end, bytes-content_end}
use Rattle.cmark_line_rules.proofs.line_rest.LineRest.content_end.Goals as goal

the_content_end : (c : goal.After-bytes) → c.begin.result + length c.bytes.result.now ≡ (row_of c.args.self.now).content_end
unfolding row_of
the_content_end c =
    ap (λ n. n + length c.bytes.result.now) c.begin.ensures.place ∙ ap (λ l. begin_of (row_of c.args.self.now) + length l) c.bytes.ensures ∙ bytes-content_end c.args.self.now

pub overflow_add-result : goal.overflow_add-result
unfolding row_of
overflow_add-result c =
    let rest = c.args.self.now in
    let ends = rest.ends in
    let is = the_content_end c in
    omega (arith, is, ends)

pub returns-clause-place : goal.returns-clause-place
unfolding row_of
returns-clause-place c = the_content_end c

pub returns-clause-order : goal.returns-clause-order
unfolding row_of
returns-clause-order c = subst (λ n. start_of (row_of c.args.self.now) ≤ n) (sym (the_content_end c)) (start-content_end c.args.self.now)

pub returns-clause-boundary : goal.returns-clause-boundary
unfolding row_of
returns-clause-boundary c text h = subst (IsCharBoundary text) (sym (the_content_end c)) h.good.content_end
