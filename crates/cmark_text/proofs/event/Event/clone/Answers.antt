use Rattle.std.proofs.Common.{arith}
use Rattle.std.proofs.lemmas.Grind.{common_steps}
use Rattle.cmark_text.proofs.event.Event.clone.Goals as goal

pub returns-in-TaskListMarker-clause-value : goal.returns-in-TaskListMarker-clause-value
returns-in-TaskListMarker-clause-value c = grind (arith, common_steps)

pub returns-in-Err-clause-succeeds : goal.returns-in-Err-clause-succeeds
returns-in-Err-clause-succeeds c = grind (arith, common_steps)
