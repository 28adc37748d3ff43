use Rattle.cmark_parser.proofs.WalkSteps.{begun_reading, begun_ranges}
use Rattle.pulldown_cmark.proofs.laws.a_walk_gives_a_beginning.Goals as goal

pub returns-clause-events : goal.returns-clause-events
returns-clause-events g c = begun_reading g.F.BrokenLinkCallback.answers g.E.EntityLookup.replacement

pub returns-clause-ranges : goal.returns-clause-ranges
returns-clause-ranges g c = begun_ranges g.F.BrokenLinkCallback.answers g.E.EntityLookup.replacement
