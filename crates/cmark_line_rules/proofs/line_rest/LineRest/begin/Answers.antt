use Rattle.cmark_line_rules.specs.Rests.{row_of}
use Rattle.std.proofs.Common.{arith, subst}
use Rattle.std.specs.Str.{IsCharBoundary}
use Rattle.cmark_line_rules.proofs.RestSteps.{begin-content_end}
use Rattle.cmark_line_rules.proofs.line_rest.LineRest.begin.Goals as goal

pub overflow_add-result : goal.overflow_add-result
unfolding row_of
overflow_add-result c =
    let rest = c.args.self.now in
    let is = c.bytes_scanned.ensures rest.start rest.line_end in
    let le = begin-content_end rest in
    let ends = rest.ends in
    omega (arith, is, le, ends)

pub returns-clause-boundary : goal.returns-clause-boundary
unfolding row_of
returns-clause-boundary c text h = let rest = c.args.self.now in subst (IsCharBoundary text) (c.bytes_scanned.ensures rest.start rest.line_end) h.good.begin
