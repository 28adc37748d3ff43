use Rattle.std.proofs.Common.{refl, subst}
use Rattle.cmark_event_walk.specs.Walking.{IfLong}
use Rattle.cmark_event_walk.specs.declared.walk_step.WalkStep.{WalkStep}
use Rattle.cmark_parser.specs.Parsing.{ComesLong, GivesWalkStep}
use Rattle.cmark_parser.proofs.ItemSteps.{step-long, step-over, step-short}
use Rattle.cmark_parser.proofs.parse.Parser.advance.Goals as goal

pub returns-in-Ok-Span-clause-gives : goal.returns-in-Ok-Span-clause-gives
returns-in-Ok-Span-clause-gives g c =
    let Says = g.F.BrokenLinkCallback.answers in
    let replacement = g.E.EntityLookup.replacement in
    let old = c.args.self.now in
    let new = c.step.new.self in
    let h = subst (λ (n : WalkStep). GivesWalkStep Says replacement old n new) c.in-Ok-Span.field-0-is c.in-Ok-Span.ensures.gives in
    step-short Says replacement old new c.in-Ok-Span.short c.in-Ok-Span.start c.in-Ok-Span.end c.ranged_event.result h c.ranged_event.ensures.value (λ text. c.ranged_event.ensures.lent text)

pub returns-in-Ok-Block-clause-gives : goal.returns-in-Ok-Block-clause-gives
returns-in-Ok-Block-clause-gives g c =
    let Says = g.F.BrokenLinkCallback.answers in
    let replacement = g.E.EntityLookup.replacement in
    let old = c.args.self.now in
    let new = c.step.new.self in
    let h = subst (λ (n : WalkStep). GivesWalkStep Says replacement old n new) c.in-Ok-Block.field-0-is c.in-Ok-Block.ensures.gives in
    step-short Says replacement old new c.in-Ok-Block.short c.in-Ok-Block.start c.in-Ok-Block.end c.ranged_event-in-Ok-Block.result h c.ranged_event-in-Ok-Block.ensures.value (λ text. c.ranged_event-in-Ok-Block.ensures.lent text)

pub take_long-requires : goal.take_long-requires
take_long-requires g c κs =
    let replacement = g.E.EntityLookup.replacement in
    let old = c.args.self.now in
    let mid = c.step.new.self in
    let h = subst (λ (n : WalkStep). GivesWalkStep g.F.BrokenLinkCallback.answers replacement old n mid) c.in-Ok-Long.field-0-is c.in-Ok-Long.ensures.gives in
    let comes = subst (λ (n : WalkStep). IfLong n (ComesLong replacement old mid)) c.in-Ok-Long.field-0-is c.in-Ok-Long.ensures.long in
    ((refl, tt), (h.can, comes.long))

pub returns-in-Ok-Long-clause-gives : goal.returns-in-Ok-Long-clause-gives
returns-in-Ok-Long-clause-gives g c =
    let Says = g.F.BrokenLinkCallback.answers in
    let replacement = g.E.EntityLookup.replacement in
    let old = c.args.self.now in
    let mid = c.step.new.self in
    let h = subst (λ (n : WalkStep). GivesWalkStep Says replacement old n mid) c.in-Ok-Long.field-0-is c.in-Ok-Long.ensures.gives in
    let comes = subst (λ (n : WalkStep). IfLong n (ComesLong replacement old mid)) c.in-Ok-Long.field-0-is c.in-Ok-Long.ensures.long in
    step-long Says replacement old mid c.take_long.new.self c.take_long.result h comes c.take_long.ensures.gives

pub returns-in-Ok-Over-clause-gives : goal.returns-in-Ok-Over-clause-gives
returns-in-Ok-Over-clause-gives g c =
    let Says = g.F.BrokenLinkCallback.answers in
    let replacement = g.E.EntityLookup.replacement in
    let old = c.args.self.now in
    let new = c.step.new.self in
    step-over Says replacement old new (subst (λ (n : WalkStep). GivesWalkStep Says replacement old n new) c.in-Ok-Over.field-0-is c.in-Ok-Over.ensures.gives)
