use Rattle.std.proofs.Common.{◌≡◌, ◌++◌, map, take}
use Rattle.cmark_flat.specs.Flat.{class_part}
use Rattle.cmark_flat.specs.Records.{spelled}
use Rattle.cmark_values.specs.Shown.{text_bytes}
use Rattle.cmark_flat.proofs.put.put_classes.Given as goal

abbrev pub invariant-loop-class : goal.invariant-loop-class
invariant-loop-class l = l.out.items ≡ l.fn.out.items ++ spelled (map class_part (map text_bytes (take l.class-index l.classes)))
