use Rattle.std.proofs.Common.{[], sym, ap, ◌∙◌, arith}
use Rattle.std.specs.Prelude.{if◌then◌else◌, is_some, option_map}
use Rattle.cmark_grammar.specs.Alerts.{alert_of}
use Rattle.cmark_values.specs.Shown.{shown_block_quote_kind}
use Rattle.cmark_scan_lines.specs.LineStart.{row_from}
use Rattle.cmark_scan_lines.proofs.RowSteps.{found-is, alert-none}
use Rattle.cmark_scan_lines.proofs.LineStartSteps.{row-emptied}
use Rattle.cmark_scan_lines.proofs.line_start.LineStart.scan_blockquote_tag.Goals as goal

pub returns-in_err-kind-clause-found : goal.returns-in_err-kind-clause-found
returns-in_err-kind-clause-found c at line_end =
    let r = row_from at line_end c.args.self.now in
    ap (option_map shown_block_quote_kind) c.from_residual.ensures ∙ c.in_err-kind.ensures.value
    ∙ sym (found-is r c.ahead.result.now (c.ahead.ensures.words at line_end) (c.ahead.ensures.blank at line_end) alert_of alert-none)

pub returns-in_err-kind-clause-rest : goal.returns-in_err-kind-clause-rest
returns-in_err-kind-clause-rest c at line_end =
    let r = row_from at line_end c.args.self.now in
    ap (λ o. if is_some o then record r { columns = [] } else r)
    (c.in_err-kind.ensures.value ∙ sym (found-is r c.ahead.result.now (c.ahead.ensures.words at line_end) (c.ahead.ensures.blank at line_end) alert_of alert-none))

pub returns-clause-found : goal.returns-clause-found
returns-clause-found c at line_end =
    let r = row_from at line_end c.args.self.now in
    c.in_ok-kind.ensures.value ∙ sym (found-is r c.ahead.result.now (c.ahead.ensures.words at line_end) (c.ahead.ensures.blank at line_end) alert_of alert-none)

pub returns-clause-rest : goal.returns-clause-rest
returns-clause-rest c at line_end =
    let line = c.args.self.now in
    let r = row_from at line_end line in
    row-emptied at line_end line c.take_bytes.new.self c.scan_all_space.new.self c.in_ok-kind.size c.ahead.result.now c.take_bytes.ensures.line (ap (λ r. r.held) (c.take_bytes.ensures.rest at line_end)) c.take_bytes.ensures.taken c.take_bytes.ensures.whole (c.ahead.ensures.rest (let some = c.in_ok-kind.ensures.some in let within = c.in_ok-kind.ensures.within in omega arith))
    c.in_ok-kind.ensures.blank (c.scan_all_space.ensures at line_end)
    ∙ ap (λ o. if is_some o then record r { columns = [] } else r)
    (c.in_ok-kind.ensures.value ∙ sym (found-is r c.ahead.result.now (c.ahead.ensures.words at line_end) (c.ahead.ensures.blank at line_end) alert_of alert-none))
