use Rattle.std.proofs.Common.{arith}
use Rattle.std.proofs.lemmas.Grind.{common_steps}
use Rattle.cmark_scan_lines.proofs.leaf.scan_code_fence.Goals as goal

pub returns-in-96-clause-fence : goal.returns-in-96-clause-fence
returns-in-96-clause-fence c = grind (arith, common_steps)

pub returns-in_default-2-clause-fence : goal.returns-in_default-2-clause-fence
returns-in_default-2-clause-fence c = grind (arith, common_steps)

pub returns-in_default-clause-fence : goal.returns-in_default-clause-fence
returns-in_default-clause-fence c = grind (arith, common_steps)
