use Rattle.std.proofs.Common.{ap, ◌∙◌, arith}
use Rattle.std.proofs.lemmas.Grind.{common_steps}
use Rattle.std.specs.Prelude.{count_by, ◌==◌}
use Rattle.std.proofs.lemmas.List.{take_all}
use Rattle.cmark_scan_lines.proofs.LeafSteps.{break-passes}
use Rattle.cmark_scan_lines.proofs.leaf.is_break_of.Goals as goal

pub returns : goal.returns
returns c =
    let line = c.args.line.now in
    break-passes c.args.character line c.loop-byte.count
    (c.loop-byte.invariant.count ∙ ap (count_by (λ c'. c' == c.args.character)) (take_all c.loop-byte.byte-index line (omega arith)))
    (λ k lt. c.loop-byte.invariant.passed k (omega arith))

pub overflow_add-count : goal.overflow_add-count
overflow_add-count c = grind (arith, common_steps)
