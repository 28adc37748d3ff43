use Rattle.std.proofs.Common.{◌≡◌, ◌≤◌, ◌+◌, ◌-◌, ℕ, List, length}
use Rattle.cmark_slots.specs.Slots.{AreSlots, NoNewLink}
use Rattle.cmark_slots.specs.Cuts.{Hides}
use Rattle.cmark_slots.proofs.slot.use_up_between.Given as goal

abbrev pub invariant-loop-at : goal.invariant-loop-at
invariant-loop-at l =
    ((text : List ℕ) (place : ℕ) → AreSlots text place l.initial.slots.items → AreSlots text place l.slots.items)
    × (length l.slots.items ≡ length l.initial.slots.items)
    × NoNewLink l.initial.slots.items l.slots.items
    × (l.at ≤ l.last)
    × (l.first ≤ l.at)
    × Hides (l.first + 1) (l.at + 1) l.initial.slots.items l.slots.items

abbrev pub decreases-loop-at : goal.decreases-loop-at
decreases-loop-at l = l.last - l.at
