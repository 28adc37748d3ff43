use Rattle.std.proofs.Common.{arith}
use Rattle.std.proofs.lemmas.Grind.{common_steps}
use Rattle.cmark_scan_lines.proofs.marker.scan_task.Goals as goal

pub returns-in_default-7-clause-plain : goal.returns-in_default-7-clause-plain
returns-in_default-7-clause-plain c = grind (arith, common_steps)

pub returns-in-91-2-clause-value : goal.returns-in-91-2-clause-value
returns-in-91-2-clause-value c = grind (arith, common_steps)

pub returns-in-91-clause-value : goal.returns-in-91-clause-value
returns-in-91-clause-value c = grind (arith, common_steps)

pub returns-in_default-2-clause-value : goal.returns-in_default-2-clause-value
returns-in_default-2-clause-value c = grind (arith, common_steps)
