use Rattle.cmark_event_walk.proofs.Readings.{Turns}
use Rattle.cmark_event_walk.proofs.span_walk.SpanWalk.step.Given as goal

abbrev pub invariant-loop-span : goal.invariant-loop-span
invariant-loop-span g l = Turns g.F.BrokenLinkCallback.answers g.E.EntityLookup.replacement g.F.BrokenLinkCallback.ready l.initial.self l.self

abbrev pub decreases-loop-span : goal.decreases-loop-span
decreases-loop-span g l = l.self.budget
