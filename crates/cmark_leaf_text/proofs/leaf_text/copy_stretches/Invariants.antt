use Rattle.std.proofs.Common.{◌≡◌, ◌++◌, string_bytes, drop}
use Rattle.cmark_leaf_text.specs.Stretches.{joined}
use Rattle.cmark_leaf_text.proofs.leaf_text.copy_stretches.Given as goal

abbrev pub invariant-loop-stretch : goal.invariant-loop-stretch
invariant-loop-stretch l = string_bytes l.out ++ joined l.source (drop l.stretch-index l.stretches) ≡ string_bytes l.initial.out ++ joined l.source l.stretches
