use Rattle.std.proofs.Common.{length}
use Rattle.cmark_blocks.specs.Steps.{ClosesTowards, Keeps}
use Rattle.cmark_blocks.proofs.state.Pass.close_containers.Given as goal

abbrev pub invariant-loop-self : goal.invariant-loop-self
invariant-loop-self g l =
    ClosesTowards g.E.EntityLookup.replacement l.kept l.initial.self l.self × Keeps l.initial.self l.self

abbrev pub decreases-loop-self : goal.decreases-loop-self
decreases-loop-self g l = length l.self.outer.items
