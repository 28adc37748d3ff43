use Rattle.std.proofs.Common.{◌≡◌, false, length}
use Rattle.cmark_link_definitions.specs.Settled.{ends_in}
use Rattle.cmark_link_definitions.proofs.settled.ends_in.Given as goal

abbrev pub invariant-loop-first : goal.invariant-loop-first
invariant-loop-first l = ends_in l.escaped l.closer l.refused l.rest ≡ ends_in false l.closer l.refused l.bytes

abbrev pub decreases-loop-first : goal.decreases-loop-first
decreases-loop-first l = length l.rest
