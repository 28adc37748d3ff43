use Rattle.std.proofs.Common.{◌≤◌, ◌-◌, ℕ, List}
use Rattle.cmark_slots.specs.Slots.{AreSlots, NoNewLink}
use Rattle.cmark_slots.specs.Cuts.{Hides}
use Rattle.cmark_slots.proofs.slot.hide.Given as goal

abbrev pub invariant-loop-at : goal.invariant-loop-at
invariant-loop-at l = record {
  order : l.from ≤ l.at;
  before : l.at ≤ l.to;
  hides : Hides l.from l.at l.initial.slots.items l.slots.items;
  slots : (text : List ℕ) (place : ℕ) → AreSlots text place l.initial.slots.items → AreSlots text place l.slots.items;
  links : NoNewLink l.initial.slots.items l.slots.items;
}

abbrev pub decreases-loop-at : goal.decreases-loop-at
decreases-loop-at l = l.to - l.at
