use Rattle.std.proofs.Common.{◌≡◌, length, map}
use Rattle.cmark_flat.specs.Decode.{classes_at}
use Rattle.cmark_flat.specs.Records.{shown_record}
use Rattle.cmark_values.specs.Shown.{text_bytes}
use Rattle.cmark_flat.proofs.Loop.{with_classes}
use Rattle.cmark_flat.proofs.parts.classes_at.Given as goal

abbrev pub invariant-loop-rest : goal.invariant-loop-rest
invariant-loop-rest l = with_classes (map text_bytes l.classes.items) (classes_at (map shown_record l.rest)) ≡ classes_at (map shown_record l.parts)

abbrev pub decreases-loop-rest : goal.decreases-loop-rest
decreases-loop-rest l = length l.rest
