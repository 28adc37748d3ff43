use Rattle.std.proofs.Common.{◌≡◌, true, ◌≤◌, ◌+◌, sym, subst, ◌∙◌, ◌-◌, ◌<◌, length, ap, arith}
use Rattle.std.proofs.lemmas.Grind.{common_steps}
use Rattle.cmark_slot_events.specs.declared.leaf_events.LeafEvents.{LeafEvents}
use Rattle.cmark_slot_events.proofs.StillToCome.{left-later}
use Rattle.cmark_leaf_text.specs.Reads.{source_of}
use Rattle.cmark_slot_events.specs.Opens.{AreOpened}
use Rattle.cmark_slot_events.specs.Longs.{is_long}
use Rattle.cmark_slot_events.specs.Shorts.{IfLong, IfShort, StandsFor}
use Rattle.cmark_slot_events.proofs.LongSteps.{long-here, not-long}
use Rattle.cmark_slot_events.proofs.ShortFirst.{stands-at}
use Rattle.cmark_slot_events.proofs.ShortSteps.{any-slot}
use Rattle.cmark_inline_model.specs.FirstEvents.{BeginWithoutEnd}
use Rattle.cmark_slot_events.proofs.NoEnds.{at-err, here-no-end}
use Rattle.cmark_slot_events.proofs.leaf_events.LeafEvents.step.Goals as goal

pub returns-clause-opened : goal.returns-clause-opened
returns-clause-opened c = c.end_short.ensures.opened (source_of c.args.leaf.now) (subst (AreOpened (source_of c.args.leaf.now)) (sym c.loop-self.invariant.1) c.requires.over.opened)

pub returns-clause-stands : goal.returns-clause-stands
returns-clause-stands c = any-slot c.end_short.result c.args.leaf.now c.args.self.now.slots.items (c.end_short.new.self.walk.next - 1) c.end_short.ensures.stands

pub returns-in-Short-clause-stands : goal.returns-in-Short-clause-stands
returns-in-Short-clause-stands c =
    let i = c.loop-self.invariant in
    let e = c.in-Ok.ensures in
    let old = c.loop-self.self in
    let t = c.loop-self-test.true in
    let n = c.len.ensures in
    let lt : old.walk.next < length old.slots.items = omega (arith, t, n) in
    stands-at c.args.leaf.now old.slots.items c.args.self.now.slots.items old.walk.next c.give_short.new.self.walk.next c.index-slot.result.now c.in-Short.short (ap (λ v. v.items) i.0) lt c.index-slot.ensures e.keeps.place
    (subst (λ n. IfShort n (StandsFor c.args.leaf.now c.index-slot.result.now)) c.in-Short.is e.stands)

pub returns-in-Long-clause-long : goal.returns-in-Long-clause-long
returns-in-Long-clause-long c =
    let e = c.in-Ok.ensures in
    let old = c.loop-self.self in
    let new = c.give_short.new.self in
    let t = c.loop-self-test.true in
    let n = c.len.ensures in
    let lt : old.walk.next < length old.slots.items = omega (arith, t, n) in
    let long = subst (λ n. IfLong n (is_long c.index-slot.result.now.kind ≡ true)) c.in-Long.is e.long in
    long-here old new c.index-slot.result.now lt c.index-slot.ensures e.keeps.slots e.keeps.place long

pub returns-clause-long : goal.returns-clause-long
returns-clause-long c = not-long c.end_short.result _ c.end_short.ensures.long

pub returns-in-Short-clause-left : goal.returns-in-Short-clause-left
returns-in-Short-clause-left c = λ left.
    let i = c.loop-self.invariant in
    let old : LeafEvents = c.args.self.now in
    let new : LeafEvents = record c.give_short.new.self { walk = record c.give_short.new.self.walk { next = c.give_short.new.self.walk.next + 1 } } in
    let g = c.give_short.ensures in
    let low = i.2 in
    let place = g.keeps.place in
    left-later c.args.leaf.now old new (g.keeps.texts ∙ i.3) (g.keeps.links ∙ i.4) (g.keeps.slots ∙ i.0) (let q : old.walk.next ≤ new.walk.next = omega (arith, low, place) in q) left

pub returns-in-Long-clause-left : goal.returns-in-Long-clause-left
returns-in-Long-clause-left c = λ left.
    let i = c.loop-self.invariant in
    let old : LeafEvents = c.args.self.now in
    let new : LeafEvents = c.give_short.new.self in
    let g = c.give_short.ensures in
    let low = i.2 in
    let place = g.keeps.place in
    left-later c.args.leaf.now old new (g.keeps.texts ∙ i.3) (g.keeps.links ∙ i.4) (g.keeps.slots ∙ i.0) (let q : old.walk.next ≤ new.walk.next = omega (arith, low, place) in q) left

pub returns-clause-left : goal.returns-clause-left
returns-clause-left c = λ left.
    let i = c.loop-self.invariant in
    let old : LeafEvents = c.args.self.now in
    let new : LeafEvents = c.end_short.new.self in
    let g = c.end_short.ensures in
    let low = i.2 in
    let place = g.keeps.place in
    left-later c.args.leaf.now old new (g.keeps.texts ∙ i.3) (g.keeps.links ∙ i.4) (g.keeps.slots ∙ i.0) (let q : old.walk.next ≤ new.walk.next = omega (arith, low, place) in q) left

pub returns-in_default-clause-ends : goal.returns-in_default-clause-ends
returns-in_default-clause-ends c =
    let i = c.loop-self.invariant in
    let old = c.loop-self.self in
    let t = c.loop-self-test.true in
    let n = c.len.ensures in
    let lt : old.walk.next < length old.slots.items = omega (arith, t, n) in
    subst BeginWithoutEnd (sym i.5)
    (here-no-end c.args.leaf.now old.texts.items old.links.items old.slots.items old.walk.opened.items old.walk.next c.index-slot.result.now lt c.index-slot.ensures
    (at-err c.give_short.result _ c.in_default.not-Ok c.give_short.ensures.ends old.texts.items old.links.items))

pub loop-self-preserved : goal.loop-self-preserved
loop-self-preserved c = grind (arith, common_steps)

pub returns-clause-events : goal.returns-clause-events
returns-clause-events c = grind (arith, common_steps)

pub returns-in-Long-clause-events : goal.returns-in-Long-clause-events
returns-in-Long-clause-events c = grind (arith, common_steps)

pub returns-in-Short-clause-events : goal.returns-in-Short-clause-events
returns-in-Short-clause-events c = grind (arith, common_steps)

pub returns-in-Short-clause-fewer : goal.returns-in-Short-clause-fewer
returns-in-Short-clause-fewer c = grind (arith, common_steps)
