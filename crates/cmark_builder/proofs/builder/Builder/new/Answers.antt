use Rattle.cmark_builder.proofs.BuilderSteps.{empty-placed}
use Rattle.cmark_builder.proofs.builder.Builder.new.Goals as goal

pub invariant_of-result : goal.invariant_of-result
invariant_of-result c = record { placed = empty-placed _ c.in_ok-with_capacity.ensures.empty }
