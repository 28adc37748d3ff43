use Rattle.std.proofs.Common.{arith}
use Rattle.std.proofs.lemmas.Grind.{common_steps}
use Rattle.cmark_scan_bytes.proofs.EntitySteps.{name_is_utf8}
use Rattle.cmark_scan_bytes.proofs.entity.named_in.Goals as goal

pub returns-in-Err-clause-value : goal.returns-in-Err-clause-value
returns-in-Err-clause-value g c = absurd (c.in-Err.ensures.cases.0 (name_is_utf8 c.args.bytes.now c.count-count.result c.count-count.ensures.value))

pub returns-clause-closed : goal.returns-clause-closed
returns-clause-closed g c = grind (arith, common_steps)
