use Rattle.std.proofs.Common.{ap, ◌∙◌}
use Rattle.std.specs.Prelude.{option_map}
use Rattle.cmark_scan_lines.specs.LineMarkers.{item_in, entered}
use Rattle.cmark_scan_lines.specs.LineStart.{row_from}
use Rattle.cmark_line_rules.specs.Rests.{row_of}
use Rattle.cmark_line_rules.specs.Starts.{shown_begun}
use Rattle.cmark_line_rules.proofs.PrefixRows.{shallow-is, numbers-is, content_end_entered, item-none, item-some, item-inside}
use Rattle.cmark_line_rules.proofs.line_rest.LineRest.after_item.Goals as goal

pub returns-in_err-delimiter-clause-item : goal.returns-in_err-delimiter-clause-item
unfolding row_of
returns-in_err-delimiter-clause-item c =
    let rest = c.args.self in
    let step = c.scan_space_upto-indent in
    ap (option_map shown_begun) c.from_residual.ensures
    ∙ item-none (row_of rest)
    (c.in_err-delimiter.ensures.found rest.start rest.line_end
    ∙ numbers-is (row_of rest) (row_from rest.start rest.line_end step.new.self) step.result (step.ensures.count rest.start) (step.ensures.rest rest.start rest.line_end))

pub with_front-requires : goal.with_front-requires
unfolding row_of
with_front-requires c =
    let rest = c.args.self in
    let step = c.scan_space_upto-indent in
    ap (λ r. r.content_end) (c.scan_item_marker.ensures.rest rest.start rest.line_end) ∙ content_end_entered (row_from rest.start rest.line_end step.new.self) ∙ ap (λ r. r.content_end) (step.ensures.rest rest.start rest.line_end)

pub returns-clause-item : goal.returns-clause-item
unfolding row_of
returns-clause-item c =
    let rest = c.args.self in
    let step = c.scan_space_upto-indent in
    item-some (row_of rest) c.in_ok-delimiter.delimiter c.in_ok-delimiter.number c.in_ok-delimiter.width
    (c.in_ok-delimiter.ensures.found rest.start rest.line_end
    ∙ numbers-is (row_of rest) (row_from rest.start rest.line_end step.new.self) step.result (step.ensures.count rest.start) (step.ensures.rest rest.start rest.line_end))

pub returns-clause-inside : goal.returns-clause-inside
unfolding row_of
returns-clause-inside c =
    let rest = c.args.self in
    let step = c.scan_space_upto-indent in
    item-inside (row_of rest) (row_of c.with_front.result) c.in_ok-delimiter.delimiter c.in_ok-delimiter.number c.in_ok-delimiter.width
    (c.in_ok-delimiter.ensures.found rest.start rest.line_end
    ∙ numbers-is (row_of rest) (row_from rest.start rest.line_end step.new.self) step.result (step.ensures.count rest.start) (step.ensures.rest rest.start rest.line_end))
    (c.with_front.ensures ∙ c.scan_item_marker.ensures.rest rest.start rest.line_end
    ∙ ap (λ r. entered (item_in r) r) (shallow-is (row_of rest) (row_from rest.start rest.line_end step.new.self) step.result (step.ensures.count rest.start) (step.ensures.rest rest.start rest.line_end)))
