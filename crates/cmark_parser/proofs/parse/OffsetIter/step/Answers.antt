use Rattle.std.proofs.Common.{subst}
use Rattle.cmark_event_walk.specs.Walking.{IfLong}
use Rattle.cmark_parser.specs.Parsing.{ComesLong, GivesWalkStep}
use Rattle.cmark_parser.proofs.parse.OffsetIter.step.Goals as goal

pub returns-in-Span-clause-gives : goal.returns-in-Span-clause-gives
returns-in-Span-clause-gives g c =
    subst (λ n. GivesWalkStep g.F.BrokenLinkCallback.answers g.E.EntityLookup.replacement c.args.self.now.parser n c.step.new.self) c.in-Span.is c.in_ok-short.ensures.gives

pub returns-in-Block-clause-gives : goal.returns-in-Block-clause-gives
returns-in-Block-clause-gives g c =
    subst (λ n. GivesWalkStep g.F.BrokenLinkCallback.answers g.E.EntityLookup.replacement c.args.self.now.parser n c.step.new.self) c.in-Block.is c.in_ok-short.ensures.gives

pub returns-in-Long-clause-gives : goal.returns-in-Long-clause-gives
returns-in-Long-clause-gives g c =
    subst (λ n. GivesWalkStep g.F.BrokenLinkCallback.answers g.E.EntityLookup.replacement c.args.self.now.parser n c.step.new.self) c.in-Long.is c.in_ok-short.ensures.gives

pub returns-in-Over-clause-gives : goal.returns-in-Over-clause-gives
returns-in-Over-clause-gives g c =
    subst (λ n. GivesWalkStep g.F.BrokenLinkCallback.answers g.E.EntityLookup.replacement c.args.self.now.parser n c.step.new.self) c.in-Over.is c.in_ok-short.ensures.gives

pub returns-in-Long-clause-long : goal.returns-in-Long-clause-long
returns-in-Long-clause-long g c =
    let replacement = g.E.EntityLookup.replacement in
    let comes = subst (λ n. IfLong n (ComesLong replacement c.args.self.now.parser c.step.new.self)) c.in-Long.is c.in_ok-short.ensures.long in comes.long
