use Rattle.std.proofs.Common.{arith}
use Rattle.std.proofs.lemmas.Grind.{common_steps}
use Rattle.cmark_scan_bytes.proofs.escapes.push_resolved.Goals as goal

pub loop-found-preserved-in_ok-push_str-2 : goal.loop-found-preserved-in_ok-push_str-2
loop-found-preserved-in_ok-push_str-2 g c = grind (arith, common_steps)

pub loop-found-preserved : goal.loop-found-preserved
loop-found-preserved g c = grind (arith, common_steps)

pub returns : goal.returns
returns g c = grind (arith, common_steps)
