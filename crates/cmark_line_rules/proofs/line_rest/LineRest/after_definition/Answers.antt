use Rattle.std.proofs.Common.{ap, ◌∙◌}
use Rattle.std.specs.Prelude.{option_map}
use Rattle.cmark_scan_lines.specs.LineStart.{row_from}
use Rattle.cmark_line_rules.specs.Definitions.{width_of}
use Rattle.cmark_line_rules.specs.Rests.{row_of}
use Rattle.cmark_line_rules.proofs.DefinitionRows.{definition-found, definition-left, content_end-following}
use Rattle.cmark_line_rules.proofs.line_rest.LineRest.after_definition.Goals as goal

pub returns-in_err-width-clause-width : goal.returns-in_err-width-clause-width
unfolding row_of
returns-in_err-width-clause-width c =
    let rest = c.args.self in
    let step = c.scan_space_upto-columns in
    ap (option_map width_of) c.from_residual.ensures ∙ c.in_err-width.ensures.found rest.start rest.line_end
    ∙ definition-found (row_of rest) (row_from rest.start rest.line_end step.new.self) step.result (step.ensures.count rest.start) (step.ensures.rest rest.start rest.line_end)

pub with_front-requires : goal.with_front-requires
unfolding row_of
with_front-requires c =
    let rest = c.args.self in
    let step = c.scan_space_upto-columns in
    ap (λ r. r.content_end) (c.scan_definition_list_definition_marker_with_indent.ensures.rest rest.start rest.line_end) ∙ content_end-following (row_from rest.start rest.line_end step.new.self) ∙ ap (λ r. r.content_end) (step.ensures.rest rest.start rest.line_end)

pub returns-clause-width : goal.returns-clause-width
unfolding row_of
returns-clause-width c =
    let rest = c.args.self in
    let step = c.scan_space_upto-columns in
    c.in_ok-width.ensures.found rest.start rest.line_end
    ∙ definition-found (row_of rest) (row_from rest.start rest.line_end step.new.self) step.result (step.ensures.count rest.start) (step.ensures.rest rest.start rest.line_end)

pub returns-clause-inside : goal.returns-clause-inside
unfolding row_of
returns-clause-inside c =
    let rest = c.args.self in
    let step = c.scan_space_upto-columns in
    c.with_front.ensures ∙ c.scan_definition_list_definition_marker_with_indent.ensures.rest rest.start rest.line_end
    ∙ definition-left (row_of rest) (row_from rest.start rest.line_end step.new.self) step.result c.in_ok-width.width (step.ensures.count rest.start) (step.ensures.rest rest.start rest.line_end) (c.in_ok-width.ensures.found rest.start rest.line_end)
