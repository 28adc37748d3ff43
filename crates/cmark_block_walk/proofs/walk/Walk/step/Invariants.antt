use Rattle.cmark_block_walk.specs.Walking.{silent_steps}
use Rattle.cmark_block_walk.proofs.WalkSteps.{Lasts}
use Rattle.cmark_block_walk.proofs.walk.Walk.step.Given as goal

abbrev pub invariant-loop-step : goal.invariant-loop-step
invariant-loop-step l = Lasts l.initial.self l.self

abbrev pub decreases-loop-step : goal.decreases-loop-step
decreases-loop-step l = silent_steps l.self.stage
