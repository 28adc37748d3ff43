use Rattle.std.proofs.Common.{◌≡◌, ◌≤◌, ◌-◌, length}
use Rattle.cmark_slot_events.specs.Events.{events_to_come}
use Rattle.cmark_slot_events.proofs.leaf_events.LeafEvents.step.Given as goal

abbrev pub invariant-loop-self : goal.invariant-loop-self
invariant-loop-self l =
    (l.self.slots ≡ l.initial.self.slots) × (l.self.walk.opened.items ≡ l.initial.self.walk.opened.items) × (l.initial.self.walk.next ≤ l.self.walk.next) × (l.self.texts ≡ l.initial.self.texts) × (l.self.links ≡ l.initial.self.links)
    × (events_to_come l.leaf l.initial.self ≡ events_to_come l.leaf l.self)

abbrev pub decreases-loop-self : goal.decreases-loop-self
decreases-loop-self l = length l.self.slots.items - l.self.walk.next
