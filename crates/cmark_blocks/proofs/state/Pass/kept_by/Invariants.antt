use Rattle.std.proofs.Common.{List, ℕ, ◌≤◌, ◌-◌, length}
use Rattle.cmark_line_rules.specs.Rests.{IsIn}
use Rattle.cmark_blocks.specs.KeepingContainers.{IsAfter, KeepsSoFar}
use Rattle.cmark_blocks.proofs.state.Pass.kept_by.Given as goal

abbrev pub invariant-loop-kept : goal.invariant-loop-kept
invariant-loop-kept g l =
    KeepsSoFar g.E.EntityLookup.replacement l.self l.line l.kept l.rest × (l.kept ≤ length l.self.outer.items)
    × ((text : List ℕ) → IsIn text l.line → IsIn text l.rest) × IsAfter l.line l.rest

abbrev pub decreases-loop-kept : goal.decreases-loop-kept
decreases-loop-kept g l = length l.self.outer.items - l.kept
