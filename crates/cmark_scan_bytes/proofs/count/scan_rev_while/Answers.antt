use Rattle.std.proofs.Common.{arith}
use Rattle.std.proofs.lemmas.Grind.{common_steps}
use Rattle.cmark_scan_bytes.proofs.count.scan_rev_while.Goals as goal

pub loop-at-preserved : goal.loop-at-preserved
loop-at-preserved g c = grind (arith, common_steps)

pub returns-then-not-f-clause-stopped : goal.returns-then-not-f-clause-stopped
returns-then-not-f-clause-stopped g c = grind (arith, common_steps)

pub returns-then-not-f-clause-passed : goal.returns-then-not-f-clause-passed
returns-then-not-f-clause-passed g c = grind (arith, common_steps)
