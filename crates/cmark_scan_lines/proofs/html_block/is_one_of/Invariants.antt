use Rattle.std.proofs.Common.{◌≡◌, drop, map}
use Rattle.cmark_grammar.specs.HtmlBlocks.{lower, is_among}
use Rattle.cmark_scan_lines.proofs.html_block.is_one_of.Given as goal

abbrev pub invariant-loop-word : goal.invariant-loop-word
invariant-loop-word l = is_among (map lower l.name) (map (λ word. word.now) (drop l.word-index l.words)) ≡ is_among (map lower l.name) (map (λ word. word.now) l.words)
