use Rattle.pulldown_cmark.proofs.laws.a_walk_that_is_over_stays_over.Goals as goal

pub returns-clause-events : goal.returns-clause-events
returns-clause-events g c old new given over gives = let none = gives.next.over over in (none.0, none.2)

pub returns-clause-ranges : goal.returns-clause-ranges
returns-clause-ranges g c old new given over gives = let none = gives.next.over over in (none.0, none.2)
