use Rattle.std.proofs.Common.{take, ap, ◌∙◌}
use Rattle.cmark_scan_lines.proofs.ContentSteps.{first_ending}
use Rattle.cmark_scan_lines.proofs.line_start.content_len.Goals as goal

pub returns-in_default-clause-content : goal.returns-in_default-clause-content
returns-in_default-clause-content c =
    ap (λ n. take n c.args.bytes.now) c.unwrap_or.ensures ∙ first_ending c.args.bytes.now c.find_line_end.result c.find_line_end.ensures
