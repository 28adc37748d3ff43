use Rattle.std.proofs.Common.{◌≡◌, true, ap, subst, sym}
use Rattle.cmark_slots.specs.declared.slot.Slot.{Slot}
use Rattle.cmark_slot_events.specs.Longs.{is_long}
use Rattle.cmark_slot_events.proofs.EventSteps.{events-following, left-next, named-there}
use Rattle.cmark_slot_events.proofs.NoEnds.{long-begins}
use Rattle.cmark_slot_events.proofs.leaf_events.LeafEvents.take_long.Goals as goal

pub give-requires-clause-named : goal.give-requires-clause-named
give-requires-clause-named c =
    let old = c.args.self.now in
    let there = named-there c.args.leaf.now old.texts.items old.links.items old.slots.items old.walk.next c.index-slot.result.now c.requires.long.within c.index-slot.ensures c.requires.left in
    record { text = there.0; link = there.1 }

pub give-requires-clause-long : goal.give-requires-clause-long
give-requires-clause-long c = subst (λ (x : Slot). is_long x.kind ≡ true) (sym c.index-slot.ensures) (c.requires.long.long c.index-slot.result.now)

pub returns-clause-gives : goal.returns-clause-gives
returns-clause-gives c =
    let e = c.in-Ok.ensures in
    let old = c.args.self.now in
    let new = c.give.new.self in
    record {
      follows = e.follows;
      lent = e.lent;
      events = events-following c.args.leaf.now old.texts.items new.texts.items old.links.items new.links.items old.slots.items new.slots.items old.walk.opened.items new.walk.opened.items old.walk.next new.walk.next (ap (λ v. v.items) e.keeps.slots) e.keeps.place c.index-slot.result.now c.in-Ok.given c.requires.long.within c.index-slot.ensures c.requires.left e.events;
    }

pub returns-clause-left : goal.returns-clause-left
returns-clause-left c =
    let e = c.in-Ok.ensures in
    let old = c.args.self.now in
    let new = c.give.new.self in
    left-next c.args.leaf.now old.texts.items new.texts.items old.links.items new.links.items old.slots.items new.slots.items old.walk.opened.items new.walk.opened.items old.walk.next new.walk.next (ap (λ v. v.items) e.keeps.slots) e.keeps.place c.index-slot.result.now c.requires.long.within c.index-slot.ensures c.requires.left e.left

pub returns-in_default-clause-ends : goal.returns-in_default-clause-ends
returns-in_default-clause-ends c = long-begins c.args.leaf.now c.args.self.now c.requires.long
