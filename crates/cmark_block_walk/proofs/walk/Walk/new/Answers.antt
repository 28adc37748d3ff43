use Rattle.std.proofs.Common.{refl}
use Rattle.cmark_block_walk.specs.declared.reading.Stage.TheVariants as stage
use Rattle.cmark_block_walk.proofs.NewSteps.{begins-walk}
use Rattle.cmark_block_walk.proofs.walk.Walk.new.Goals as goal

pub returns-clause-remains : goal.returns-clause-remains
returns-clause-remains c = λ forest document is shown order at.
    begins-walk c.args.tree (record { text = c.args.text; tree = c.reset.new.self; allocations = c.args.allocations; alloc = c.args.alloc; stage = stage.Before }) refl c.reset.ensures.first forest document is shown order at
