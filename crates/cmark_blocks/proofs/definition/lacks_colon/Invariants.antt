use Rattle.std.proofs.Common.{◌≡◌, false, length}
use Rattle.cmark_blocks.specs.Brackets.{lacks_colon}
use Rattle.cmark_blocks.proofs.definition.lacks_colon.Given as goal

abbrev pub invariant-loop-first : goal.invariant-loop-first
invariant-loop-first l = lacks_colon l.escaped l.rest ≡ lacks_colon false l.label

abbrev pub decreases-loop-first : goal.decreases-loop-first
decreases-loop-first l = length l.rest
