use Rattle.cmark_block_walk.proofs.LineSteps.{Gathered}
use Rattle.cmark_block_walk.proofs.walk.Walk.gather.Given as goal

abbrev pub invariant-loop : goal.invariant-loop
invariant-loop l = Gathered l.self l.lines.items l.next
