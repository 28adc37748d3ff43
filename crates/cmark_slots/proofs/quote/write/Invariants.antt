use Rattle.std.proofs.Common.{◌≡◌, ℕ, List, drop, length}
use Rattle.cmark_slots.specs.QuoteSlots.{with_characters}
use Rattle.cmark_slots.specs.Slots.{AreSlots, NoNewLink}
use Rattle.cmark_slots.proofs.quote.write.Given as goal

abbrev pub invariant-loop-at : goal.invariant-loop-at
invariant-loop-at l =
    ((text : List ℕ) (place : ℕ) → AreSlots text place l.initial.slots.items → AreSlots text place l.slots.items)
    × (length l.slots.items ≡ length l.initial.slots.items)
    × NoNewLink l.initial.slots.items l.slots.items
    × (with_characters (drop l.at l.placed) (drop l.at l.characters) l.slots.items ≡ with_characters l.placed l.characters l.initial.slots.items)
