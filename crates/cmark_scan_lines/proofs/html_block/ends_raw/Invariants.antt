use Rattle.std.proofs.Common.{◌≡◌, length, map}
use Rattle.cmark_grammar.specs.HtmlBlocks.{lower}
use Rattle.cmark_scan_lines.specs.HtmlLines.{ends_raw}
use Rattle.cmark_scan_lines.proofs.html_block.ends_raw.Given as goal

abbrev pub invariant-loop-at : goal.invariant-loop-at
invariant-loop-at l = ends_raw (map lower l.rest) ≡ ends_raw (map lower l.line)

abbrev pub decreases-loop-at : goal.decreases-loop-at
decreases-loop-at l = length l.rest
