use Rattle.std.proofs.Common.{arith}
use Rattle.std.proofs.lemmas.Grind.{common_steps}
use Rattle.cmark_scan_lines.proofs.table.scan_hyphens.Goals as goal

pub returns-in_default-2 : goal.returns-in_default-2
returns-in_default-2 c = grind (arith, common_steps)

pub returns-in-58 : goal.returns-in-58
returns-in-58 c = grind (arith, common_steps)
