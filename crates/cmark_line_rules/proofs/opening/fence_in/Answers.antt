use Rattle.std.proofs.Common.{arith}
use Rattle.std.proofs.lemmas.Grind.{common_steps}
use Rattle.cmark_line_rules.proofs.opening.fence_in.Goals as goal

pub returns-in_default-clause-fence : goal.returns-in_default-clause-fence
returns-in_default-clause-fence c = grind (arith, common_steps)

pub returns-in_default-2-clause-fence : goal.returns-in_default-2-clause-fence
returns-in_default-2-clause-fence c = grind (arith, common_steps)
