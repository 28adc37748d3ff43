use Rattle.std.proofs.Common.{◌≡◌, ◌++◌, drop, map}
use Rattle.std.specs.Prelude.{string_bytes}
use Rattle.cmark_line_rules.specs.Rests.{row_of}
use Rattle.cmark_leaf_nodes.specs.Contents.{gathered_bytes}
use Rattle.cmark_leaf_nodes.proofs.setext.gather_lines.Given as goal

abbrev pub invariant-loop-rest : goal.invariant-loop-rest
invariant-loop-rest l = string_bytes l.room ++ gathered_bytes (map row_of (drop l.rest-index l.before)) (row_of l.last) ≡ gathered_bytes (map row_of l.before) (row_of l.last)
