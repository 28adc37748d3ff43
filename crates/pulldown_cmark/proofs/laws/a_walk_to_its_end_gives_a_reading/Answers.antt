use Rattle.cmark_parser.proofs.WalkSteps.{drained_cut, drained_lent, drained_ranges, drained_reading, drained_silent}
use Rattle.pulldown_cmark.proofs.laws.a_walk_to_its_end_gives_a_reading.Goals as goal

pub returns-clause-events : goal.returns-clause-events
returns-clause-events g c = drained_reading g.F.BrokenLinkCallback.answers g.E.EntityLookup.replacement

pub returns-clause-ranges : goal.returns-clause-ranges
returns-clause-ranges g c = drained_ranges g.F.BrokenLinkCallback.answers g.E.EntityLookup.replacement

pub returns-clause-silent : goal.returns-clause-silent
returns-clause-silent g c = drained_silent g.F.BrokenLinkCallback.answers g.E.EntityLookup.replacement

pub returns-clause-lent : goal.returns-clause-lent
returns-clause-lent g c = drained_lent g.F.BrokenLinkCallback.answers g.E.EntityLookup.replacement

pub returns-clause-cut : goal.returns-clause-cut
returns-clause-cut g c = drained_cut g.F.BrokenLinkCallback.answers g.E.EntityLookup.replacement
