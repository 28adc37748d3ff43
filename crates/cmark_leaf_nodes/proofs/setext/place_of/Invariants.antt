use Rattle.std.proofs.Common.{◌≡◌, ◌≤◌, drop, length, map}
use Rattle.cmark_line_rules.specs.Rests.{row_of}
use Rattle.cmark_leaf_nodes.specs.Contents.{gathered_bytes, place_in}
use Rattle.cmark_leaf_nodes.proofs.setext.place_of.Given as goal

abbrev pub invariant-loop-rest : goal.invariant-loop-rest
invariant-loop-rest l = record {
  within : l.left ≤ length (gathered_bytes (map row_of (drop l.rest-index l.before)) (row_of l.last));
  place : place_in (map row_of (drop l.rest-index l.before)) (row_of l.last) l.left ≡ place_in (map row_of l.before) (row_of l.last) l.size;
}
