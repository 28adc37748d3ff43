use Rattle.std.proofs.Common.{◌≡◌, ◌+◌, ap, subst, ◌∙◌, drop, arith}
use Rattle.std.proofs.lemmas.Grind.{common_steps}
use Rattle.std.specs.Str.{IsCharBoundary}
use Rattle.cmark_scan_bytes.proofs.Boundaries.{boundary_after}
use Rattle.cmark_scan_bytes.proofs.Lists.{rest_of}
use Rattle.cmark_link_scan.proofs.label.collapsed_end.Goals as goal

pub returns-in-91-clause-ends : goal.returns-in-91-clause-ends
returns-in-91-clause-ends c =
    let rest = rest_of c.as_bytes.result.now c.args.at ∙ ap (drop c.args.at) c.as_bytes.ensures.value in
    subst (IsCharBoundary c.args.text.now) (let e : c.args.at + 1 + 1 ≡ c.args.at + 2 = omega arith in e)
    (boundary_after c.args.text.now _ c.args.at 1 93 c.utf8.text rest (omega arith) (omega arith) (omega arith))

pub returns-in-91-clause-value : goal.returns-in-91-clause-value
returns-in-91-clause-value c = grind (arith, common_steps)
