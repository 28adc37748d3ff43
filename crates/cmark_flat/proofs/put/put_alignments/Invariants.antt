use Rattle.std.proofs.Common.{◌≡◌, ◌++◌, map, take}
use Rattle.cmark_flat.specs.Flat.{alignment_number}
use Rattle.cmark_values.specs.Shown.{shown_alignment}
use Rattle.cmark_flat.proofs.put.put_alignments.Given as goal

abbrev pub invariant-loop-alignment : goal.invariant-loop-alignment
invariant-loop-alignment l = l.out.items ≡ l.fn.out.items ++ map alignment_number (map shown_alignment (take l.alignment-index l.alignments))
