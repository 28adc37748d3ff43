use Rattle.std.proofs.Common.{sym, ◌∙◌, arith}
use Rattle.cmark_grammar.specs.HtmlBlocks.{lower}
use Rattle.cmark_scan_lines.proofs.ByteSteps.{starts-other, same_more, starts-same}
use Rattle.cmark_scan_lines.proofs.bytes.starts_lower.Goals as goal

pub returns-then-lower-byte-clause-value : goal.returns-then-lower-byte-clause-value
returns-then-lower-byte-clause-value c =
    starts-other lower c.args.bytes.now c.args.prefix.now c.loop-at.at (omega arith) c.loop-at-test.true (λ same. c.if-lower-byte.true (c.lower.ensures ∙ same))

pub loop-at-preserved : goal.loop-at-preserved
loop-at-preserved c =
    same_more lower c.args.bytes.now c.args.prefix.now c.loop-at.at (omega arith) c.loop-at-test.true (sym c.lower.ensures ∙ c.if-lower-byte.false) c.loop-at.invariant

pub returns-clause-value : goal.returns-clause-value
returns-clause-value c = starts-same lower c.args.bytes.now c.args.prefix.now c.loop-at.at (omega arith) c.loop-at.invariant
