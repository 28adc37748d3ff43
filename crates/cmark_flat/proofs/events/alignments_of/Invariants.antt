use Rattle.std.proofs.Common.{◌≡◌, drop, map}
use Rattle.cmark_flat.specs.Decode.{alignment_of, each}
use Rattle.cmark_values.specs.Shown.{shown_alignment}
use Rattle.cmark_flat.proofs.Loop.{with_front}
use Rattle.cmark_flat.proofs.events.alignments_of.Given as goal

abbrev pub invariant-loop-number : goal.invariant-loop-number
invariant-loop-number l = with_front (map shown_alignment l.alignments.items) (each alignment_of (drop l.number-index l.numbers)) ≡ each alignment_of l.numbers
