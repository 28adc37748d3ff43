use Rattle.std.proofs.Common.{◌≤◌, length}
use Rattle.cmark_blocks.specs.EmptyLines.{KeepEmptyFrom}
use Rattle.cmark_blocks.proofs.containers.strict_count.Given as goal

abbrev pub invariant-loop-count : goal.invariant-loop-count
invariant-loop-count l = KeepEmptyFrom l.count l.outer.items × (l.count ≤ length l.outer.items)

abbrev pub decreases-loop-count : goal.decreases-loop-count
decreases-loop-count l = l.count
