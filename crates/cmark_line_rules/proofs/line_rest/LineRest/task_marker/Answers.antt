use Rattle.std.proofs.Common.{ap, ◌∙◌}
use Rattle.std.specs.Prelude.{option_map}
use Rattle.cmark_line_rules.specs.Boxes.{is_checked}
use Rattle.cmark_line_rules.specs.Rests.{row_of}
use Rattle.cmark_line_rules.proofs.BoxRows.{scanned-task, box-following, box-content_end}
use Rattle.cmark_line_rules.proofs.line_rest.LineRest.task_marker.Goals as goal

pub returns-in_err-checked-clause-task : goal.returns-in_err-checked-clause-task
unfolding row_of
returns-in_err-checked-clause-task c options same =
    let rest = c.args.self in
    ap (option_map is_checked) c.from_residual.ensures ∙ c.in_err-checked.ensures.found rest.start rest.line_end ∙ scanned-task options (row_of rest) (same ∙ c.if-not-tasklists.false)

pub with_front-requires : goal.with_front-requires
unfolding row_of
with_front-requires c = let rest = c.args.self in ap (λ r. r.content_end) (c.scan_task_list_marker.ensures.rest rest.start rest.line_end) ∙ box-content_end (row_of rest)

pub returns-clause-task : goal.returns-clause-task
unfolding row_of
returns-clause-task c options same =
    let rest = c.args.self in
    c.in_ok-checked.ensures.found rest.start rest.line_end ∙ scanned-task options (row_of rest) (same ∙ c.if-not-tasklists.false)

pub returns-clause-following : goal.returns-clause-following
unfolding row_of
returns-clause-following c =
    let rest = c.args.self in
    c.with_front.ensures ∙ c.scan_task_list_marker.ensures.rest rest.start rest.line_end ∙ box-following (row_of rest) c.in_ok-checked.checked (c.in_ok-checked.ensures.found rest.start rest.line_end)
