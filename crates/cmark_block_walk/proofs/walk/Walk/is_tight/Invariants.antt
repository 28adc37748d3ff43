use Rattle.std.proofs.Common.{List, length}
use Rattle.cmark_tree.specs.Zip.{Zip}
use Rattle.cmark_items.specs.declared.item.Item.{Item}
use Rattle.cmark_block_walk.specs.Walking.{Outer, StandsBelow}
use Rattle.cmark_block_walk.proofs.Paths.{TightFrom}
use Rattle.cmark_block_walk.proofs.walk.Walk.is_tight.Given as goal

abbrev pub invariant-loop-ix : goal.invariant-loop-ix
invariant-loop-ix l = (z : Zip Item) (above : List Outer) → StandsBelow l.self z above → TightFrom l.self l.parents.rest.now above

abbrev pub decreases-loop-ix : goal.decreases-loop-ix
decreases-loop-ix l = length l.parents.rest.now
