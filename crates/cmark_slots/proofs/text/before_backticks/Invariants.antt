use Rattle.std.specs.Prelude.{◌≡◌, ◌≤◌}
use Rattle.cmark_slots.specs.Slots.{before_backticks}
use Rattle.cmark_slots.proofs.text.before_backticks.Given as goal

abbrev pub invariant-loop-at : goal.invariant-loop-at
invariant-loop-at l = record {
  within : l.at ≤ l.end;
  value : before_backticks l.text l.at ≡ before_backticks l.text l.end;
}

abbrev pub decreases-loop-at : goal.decreases-loop-at
decreases-loop-at l = l.at
