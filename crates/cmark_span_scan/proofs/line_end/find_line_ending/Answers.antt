use Rattle.std.proofs.Common.{drop, ap, ◌∙◌}
use Rattle.cmark_scan_bytes.proofs.Lists.{rest_of}
use Rattle.cmark_span_scan.proofs.EndSteps.{no_end, first_end}
use Rattle.cmark_span_scan.proofs.line_end.find_line_ending.Goals as goal

pub returns-in_err-start : goal.returns-in_err-start
returns-in_err-start c = rw c.from_residual.ensures (no_end c.as_bytes-bytes.result.now c.args.text.now c.as_bytes-bytes.ensures.value c.in_err-start.ensures)

pub returns : goal.returns
returns c =
    let rest = rest_of c.as_bytes-bytes.result.now c.in_ok-start.start ∙ ap (drop c.in_ok-start.start) c.as_bytes-bytes.ensures.value in
    first_end c.as_bytes-bytes.result.now c.args.text.now _ c.in_ok-start.start c.ending_len.result c.as_bytes-bytes.ensures.value c.utf8.text c.in_ok-start.ensures rest c.ending_len.ensures.value
