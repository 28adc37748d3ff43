use Rattle.std.proofs.Common.{◌≡◌, ◌≤◌, ◌-◌, drop, length, map}
use Rattle.cmark_flat.specs.Decode.{attributes_of}
use Rattle.cmark_flat.specs.Records.{shown_record}
use Rattle.cmark_values.specs.Shown.{shown_attribute}
use Rattle.cmark_flat.proofs.Loop.{with_front}
use Rattle.cmark_flat.proofs.parts.attributes_of.Given as goal

abbrev pub invariant-loop-at : goal.invariant-loop-at
invariant-loop-at l = record {
  within : l.at ≤ length l.parts;
  so_far : with_front (map shown_attribute l.attributes.items) (attributes_of (map shown_record (drop l.at l.parts))) ≡ attributes_of (map shown_record l.parts);
}

abbrev pub decreases-loop-at : goal.decreases-loop-at
decreases-loop-at l = length l.parts - l.at
