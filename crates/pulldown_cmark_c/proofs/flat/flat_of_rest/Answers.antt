use Rattle.std.proofs.Common.{subst}
use Rattle.cmark_parser.specs.Parsing.{GivesAs}
use Rattle.pulldown_cmark_c.specs.Flat.{says-nothing}
use Rattle.pulldown_cmark_c.proofs.FlatSteps.{all_given, event_more, long_kept, short_more}
use Rattle.pulldown_cmark_c.proofs.flat.flat_of_rest.Goals as goal

pub returns-in-Over : goal.returns-in-Over
returns-in-Over g c =
    let replacement = g.E.EntityLookup.replacement in
    let iter = c.loop-output.iter in
    let new = c.step.new.self in
    let h = subst (λ n. GivesAs says-nothing replacement iter.parser n new.parser) c.in-Over.is c.in_ok-short.ensures.gives in
    all_given replacement c.args.iter.now iter new h.answers.taken c.loop-output.output.items c.loop-output.invariant.0 h.answers.asks h.answers.none

pub loop-output-preserved : goal.loop-output-preserved
loop-output-preserved g c =
    let replacement = g.E.EntityLookup.replacement in
    let first = c.args.iter.now in
    let iter = c.loop-output.iter in
    let mid = c.step.new.self in
    let new = c.take_long.new.self in
    let h = subst (λ n. GivesAs says-nothing replacement iter.parser n mid.parser) c.in-Long.is c.in_ok-short.ensures.gives in
    let kept = long_kept says-nothing replacement first.parser iter.parser mid.parser c.loop-output.output.items c.loop-output.invariant.0 h in
    (event_more says-nothing replacement first.parser mid.parser new.parser c.in_ok-given-in-Long.given c.loop-output.output.items c.append_given.new.out.items kept c.in_ok-given-in-Long.ensures.gives c.in_ok-append_given-in-Long.ensures, c.in_ok-given-in-Long.ensures.ready)

pub loop-output-preserved-in-Continue-branch-4 : goal.loop-output-preserved-in-Continue-branch-4
loop-output-preserved-in-Continue-branch-4 g c =
    let replacement = g.E.EntityLookup.replacement in
    let iter = c.loop-output.iter in
    let new = c.step.new.self in
    let h = subst (λ n. GivesAs says-nothing replacement iter.parser n new.parser) c.in-Short.is c.in_ok-short.ensures.gives in
    (short_more says-nothing replacement c.args.iter.now.parser iter.parser new.parser c.in-Short.short c.in-Short.start c.in-Short.end c.loop-output.output.items c.append_short.new.out.items c.loop-output.invariant.0 h c.in_ok-append_short-in-Short.ensures, c.in_ok-short.ensures.ready)
