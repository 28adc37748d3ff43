use Rattle.std.proofs.Common.{◌≡◌, ◌≤◌, ◌-◌, drop, length, map}
use Rattle.cmark_flat.specs.Decode.{each, groups}
use Rattle.cmark_flat.specs.Questions.{reply_of}
use Rattle.cmark_flat.specs.Records.{shown_record}
use Rattle.cmark_flat.specs.Replies.{shown_reply}
use Rattle.cmark_flat.proofs.Loop.{with_front}
use Rattle.cmark_flat.proofs.replies.replies_of.Given as goal

abbrev pub invariant-loop-at : goal.invariant-loop-at
invariant-loop-at l = record {
  within : l.at ≤ length l.records;
  so_far : with_front (map shown_reply l.replies.items) (each reply_of (groups (map shown_record (drop l.at l.records)))) ≡ each reply_of (groups (map shown_record l.records));
}

abbrev pub decreases-loop-at : goal.decreases-loop-at
decreases-loop-at l = length l.records - l.at
