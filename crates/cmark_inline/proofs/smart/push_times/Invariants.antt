use Rattle.std.proofs.Common.{◌≡◌, ◌++◌}
use Rattle.std.specs.Prelude.{string_bytes}
use Rattle.cmark_grammar.specs.Dashes.{repeated}
use Rattle.cmark_inline.proofs.smart.push_times.Given as goal

abbrev pub invariant-loop-left : goal.invariant-loop-left
invariant-loop-left l = string_bytes l.out ++ repeated l.character l.left ≡ string_bytes l.initial.out ++ repeated l.character l.times

abbrev pub decreases-loop-left : goal.decreases-loop-left
decreases-loop-left l = l.left
