use Rattle.std.proofs.Common.{◌∙◌, not, ap, arith}
use Rattle.std.specs.List.{prefix_len}
use Rattle.cmark_scan_bytes.proofs.Lists.{rest_of}
use Rattle.cmark_span_scan.specs.Special.{has_byte}
use Rattle.cmark_span_scan.proofs.SpecialSteps.{next_boundary}
use Rattle.cmark_span_scan.proofs.special.next_special.Goals as goal

pub returns-clause-boundary : goal.returns-clause-boundary
returns-clause-boundary c = λ o is.
    next_boundary o c.args.table.now c.args.bytes.now c.args.at c.plain_size.result is (λ i. omega (arith, c.type_inv.bytes i)) c.requires
    (c.plain_size.ensures.value ∙ ap (prefix_len (λ b. not (has_byte c.args.table.now b))) (rest_of c.args.bytes.now c.args.at))
