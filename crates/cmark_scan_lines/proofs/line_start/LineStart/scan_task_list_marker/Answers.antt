use Rattle.std.proofs.Common.{sym, ap, ◌∙◌}
use Rattle.std.specs.Prelude.{if◌then◌else◌, is_some}
use Rattle.cmark_grammar.specs.Rows.{without}
use Rattle.cmark_grammar.specs.TaskMarkers.{task_of}
use Rattle.cmark_scan_lines.specs.LineStart.{row_from}
use Rattle.cmark_scan_lines.proofs.RowSteps.{found-is, task-none}
use Rattle.cmark_scan_lines.proofs.line_start.LineStart.scan_task_list_marker.Goals as goal

pub returns-in_err-checked-clause-found : goal.returns-in_err-checked-clause-found
returns-in_err-checked-clause-found c at line_end =
    let r = row_from at line_end c.args.self.now in
    c.from_residual.ensures ∙ c.in_err-checked.ensures.value ∙ sym (found-is r c.ahead.result.now (c.ahead.ensures.words at line_end) (c.ahead.ensures.blank at line_end) task_of task-none)

pub returns-in_err-checked-clause-rest : goal.returns-in_err-checked-clause-rest
returns-in_err-checked-clause-rest c at line_end =
    let r = row_from at line_end c.args.self.now in
    ap (λ o. if is_some o then without 3 r else r) (c.in_err-checked.ensures.value ∙ sym (found-is r c.ahead.result.now (c.ahead.ensures.words at line_end) (c.ahead.ensures.blank at line_end) task_of task-none))

pub returns-clause-found : goal.returns-clause-found
returns-clause-found c at line_end =
    let r = row_from at line_end c.args.self.now in
    c.in_ok-checked.ensures.value ∙ sym (found-is r c.ahead.result.now (c.ahead.ensures.words at line_end) (c.ahead.ensures.blank at line_end) task_of task-none)

pub returns-clause-rest : goal.returns-clause-rest
returns-clause-rest c at line_end =
    let r = row_from at line_end c.args.self.now in
    c.take_bytes.ensures.rest at line_end
    ∙ ap (λ o. if is_some o then without 3 r else r) (c.in_ok-checked.ensures.value ∙ sym (found-is r c.ahead.result.now (c.ahead.ensures.words at line_end) (c.ahead.ensures.blank at line_end) task_of task-none))
