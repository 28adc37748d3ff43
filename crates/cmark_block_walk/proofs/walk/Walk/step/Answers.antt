use Rattle.std.proofs.Common.{subst}
use Rattle.cmark_block_walk.specs.Walking.{GivesStep}
use Rattle.cmark_block_walk.proofs.ShortSteps.{after-lasting, lasts-on}
use Rattle.cmark_block_walk.proofs.walk.Walk.step.Goals as goal

pub returns-in_default-clause-refused : goal.returns-in_default-clause-refused
returns-in_default-clause-refused c = λ left r. c.in_default.ensures.refused.remains left (c.loop-step.invariant.remains left r)

pub returns-in-Some-clause-given : goal.returns-in-Some-clause-given
returns-in-Some-clause-given c =
    after-lasting c.args.self.now c.loop-step.self c.short_step.new.self c.in-Some.brief c.short_step.new.lines.items c.loop-step.invariant
    (subst (λ b. GivesStep c.loop-step.self b c.short_step.new.lines.items c.short_step.new.self) c.in-Some.is c.in-Ok.ensures.given)

pub loop-step-preserved : goal.loop-step-preserved
loop-step-preserved c = lasts-on c.args.self.now c.loop-step.self c.short_step.new.self c.loop-step.invariant
    (subst (λ b. GivesStep c.loop-step.self b c.short_step.new.lines.items c.short_step.new.self) c.in_default-step.is c.in-Ok.ensures.given) c.in-Ok.ensures.goes_on.goes c.in-Ok.ensures.goes_on.definitions c.in-Ok.ensures.goes_on.text
