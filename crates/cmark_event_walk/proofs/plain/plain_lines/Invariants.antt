use Rattle.std.specs.Prelude.{◌-◌, length}
use Rattle.cmark_event_walk.proofs.PlainSteps.{HasEnded}
use Rattle.cmark_event_walk.proofs.plain.plain_lines.Given as goal

abbrev pub invariant-loop-from : goal.invariant-loop-from
invariant-loop-from l = HasEnded l.special l.bytes l.joins l.from

abbrev pub decreases-loop-from : goal.decreases-loop-from
decreases-loop-from l = length l.bytes - l.from
