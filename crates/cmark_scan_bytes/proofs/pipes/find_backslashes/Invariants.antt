use Rattle.std.proofs.Common.{◌≡◌, ◌-◌, ◌++◌, length, take, drop}
use Rattle.cmark_grammar.specs.LabelsOverLines.{literal_pipes_from, with_literal_pipes}
use Rattle.cmark_scan_bytes.proofs.pipes.find_backslashes.Given as goal

-- the bytes at the beginning are kept
abbrev pub invariant-loop-start : goal.invariant-loop-start
invariant-loop-start l = record {
  same : l.bytes ≡ l.text;
  stay : with_literal_pipes l.text ≡ take l.start l.text ++ literal_pipes_from l.is_second (drop l.start l.text);
}

abbrev pub decreases-loop-start : goal.decreases-loop-start
decreases-loop-start l = length l.bytes - l.start
