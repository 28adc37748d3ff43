use Rattle.cmark_parser.proofs.WalkSteps.{begun_ranges_few, begun_few}
use Rattle.pulldown_cmark.proofs.laws.given_events_are_few.Goals as goal

pub returns-clause-events : goal.returns-clause-events
returns-clause-events g c = begun_few g.F.BrokenLinkCallback.answers g.E.EntityLookup.replacement

pub returns-clause-ranges : goal.returns-clause-ranges
returns-clause-ranges g c = begun_ranges_few g.F.BrokenLinkCallback.answers g.E.EntityLookup.replacement
