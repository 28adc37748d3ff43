use Rattle.std.proofs.Common.{◌∙◌, arith, subst}
use Rattle.cmark_line_rules.specs.Rests.{row_of}
use Rattle.cmark_blocks.specs.IndentedLines.{DrawsLines}
use Rattle.cmark_blocks.proofs.IndentedSteps.{draws-line, rows-more}
use Rattle.cmark_blocks.proofs.code.draw_blank_lines.Goals as goal

pub loop-line-preserved : goal.loop-line-preserved
loop-line-preserved c = record {
  lines = λ text.
      subst (λ rs. DrawsLines text c.args.builder.now c.draw_code_line.new.builder rs c.args.waits c.in_ok-left.left)
      (rows-more c.args.lines.now c.loop-line.line-index c.line-item.result (omega (arith, c.loop-line-test.true, c.loop-line.auto.line-index-end)) c.line-item.is)
      (draws-line text (row_of c.line-item.result) c.args.builder.now c.loop-line.builder c.draw_code_line.new.builder _ c.args.waits c.loop-line.left c.in_ok-left.left
      (c.loop-line.invariant.lines text) (c.in_ok-left.ensures.drawn text) (c.in_ok-left.ensures.waits text));
  definitions = c.in_ok-left.ensures.definitions ∙ c.loop-line.invariant.definitions;
}
