use Rattle.std.proofs.Common.{◌≡◌, ◌≤◌, ◌+◌, ◌-◌, ◌++◌, length}
use Rattle.std.specs.Str.{IsCharBoundary}
use Rattle.cmark_slots.specs.Slots.{AreSlots, NoNewLink, byte_slots}
use Rattle.cmark_inline.proofs.state.InlineState.push_bytes.Given as goal

abbrev pub invariant-loop-at : goal.invariant-loop-at
invariant-loop-at l = record {
  following : l.start ≤ l.at;
  before : l.at ≤ l.end;
  place : IsCharBoundary l.text l.at;
  slots : AreSlots l.text l.at l.self.slots.items;
  links : NoNewLink l.initial.self.slots.items l.self.slots.items;
  bytes : l.self.slots.items ≡ l.initial.self.slots.items ++ byte_slots l.start (l.at - l.start);
  others : l.self ≡ record l.initial.self { slots = l.self.slots };
  size : length l.self.slots.items ≡ length l.initial.self.slots.items + (l.at - l.start);
}

abbrev pub decreases-loop-at : goal.decreases-loop-at
decreases-loop-at l = l.end - l.at
