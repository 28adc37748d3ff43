use Rattle.std.proofs.Common.{sym, ◌∙◌}
use Rattle.cmark_scan_lines.specs.LineStart.{row_from}
use Rattle.cmark_scan_lines.proofs.RowSteps.{begins-is, begins-none, begins-some}
use Rattle.cmark_scan_lines.proofs.line_start.LineStart.goes_on_with.Goals as goal

pub returns-in-empty-clause-found : goal.returns-in-empty-clause-found
returns-in-empty-clause-found c at line_end =
    let bs = c.ahead.result.now in
    begins-none c.args.byte bs c.in-empty.len_below
    ∙ sym (begins-is (row_from at line_end c.args.self.now) bs (c.ahead.ensures.words at line_end) (c.ahead.ensures.blank at line_end) c.args.byte c.requires)

pub returns-in-len1-up-clause-found : goal.returns-in-len1-up-clause-found
returns-in-len1-up-clause-found c at line_end =
    let bs = c.ahead.result.now in
    begins-some c.args.byte bs c.in-len1-up.len_at_least
    ∙ sym (begins-is (row_from at line_end c.args.self.now) bs (c.ahead.ensures.words at line_end) (c.ahead.ensures.blank at line_end) c.args.byte c.requires)
