use Rattle.std.proofs.Common.{◌≡◌, map, take}
use Rattle.cmark_grammar.specs.HtmlBlocks.{lower}
use Rattle.cmark_scan_lines.proofs.bytes.starts_lower.Given as goal

abbrev pub invariant-loop-at : goal.invariant-loop-at
invariant-loop-at l = take l.at (map lower l.bytes) ≡ take l.at l.prefix
