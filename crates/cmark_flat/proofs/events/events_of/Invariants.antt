use Rattle.std.proofs.Common.{◌≡◌, ◌≤◌, ◌-◌, drop, length, map}
use Rattle.cmark_flat.specs.Decode.{each, groups, ranged_of}
use Rattle.cmark_flat.specs.Records.{shown_record}
use Rattle.cmark_text.specs.Ranged.{shown_ranged}
use Rattle.cmark_flat.proofs.Loop.{with_front}
use Rattle.cmark_flat.proofs.events.events_of.Given as goal

abbrev pub invariant-loop-at : goal.invariant-loop-at
invariant-loop-at l = record {
  within : l.at ≤ length l.records;
  so_far : with_front (map shown_ranged l.events.items) (each ranged_of (groups (map shown_record (drop l.at l.records)))) ≡ each ranged_of (groups (map shown_record l.records));
}

abbrev pub decreases-loop-at : goal.decreases-loop-at
decreases-loop-at l = length l.records - l.at
