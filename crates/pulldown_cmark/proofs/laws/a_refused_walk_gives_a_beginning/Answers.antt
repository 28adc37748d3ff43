use Rattle.cmark_parser.proofs.WalkSteps.{refused_ranges, refused_reading}
use Rattle.pulldown_cmark.proofs.laws.a_refused_walk_gives_a_beginning.Goals as goal

pub returns-clause-events : goal.returns-clause-events
returns-clause-events g c = refused_reading g.F.BrokenLinkCallback.answers g.E.EntityLookup.replacement

pub returns-clause-ranges : goal.returns-clause-ranges
returns-clause-ranges g c = refused_ranges g.F.BrokenLinkCallback.answers g.E.EntityLookup.replacement
