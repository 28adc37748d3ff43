use Rattle.cmark_scan_bytes.proofs.Lists.{rest_of}
use Rattle.cmark_scan_lines.proofs.LeafSteps.{fence-found}
use Rattle.cmark_scan_lines.proofs.leaf.fence_of.Goals as goal

pub returns-clause-fence : goal.returns-clause-fence
returns-clause-fence c indent =
    let line = c.args.line.now in
    let run_length = c.count_leading-run_length.result in
    fence-found indent c.args.delimiter run_length c.count_blanks.result line _ c.trimmed.result.now c.count_leading-run_length.ensures.value c.if-run_length-lt3.false (rest_of line run_length) c.count_blanks.ensures.value c.trimmed.ensures.value
