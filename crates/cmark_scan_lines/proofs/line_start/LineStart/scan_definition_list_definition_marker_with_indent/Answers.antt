use Rattle.std.proofs.Common.{◌+◌, Some, sym, ap, ◌∙◌}
use Rattle.std.specs.Prelude.{option_map, unwrap_or}
use Rattle.cmark_grammar.specs.Rows.{without}
use Rattle.cmark_grammar.specs.Containers.{padding}
use Rattle.cmark_scan_lines.specs.LineStart.{row_from}
use Rattle.cmark_scan_lines.specs.LineMarkers.{sum_up_to_most}
use Rattle.cmark_scan_lines.proofs.RowSteps.{definition-none, definition-some, definition-following}
use Rattle.cmark_scan_lines.proofs.line_start.LineStart.scan_definition_list_definition_marker_with_indent.Goals as goal

pub returns-then-not-goes_on_with-clause-found : goal.returns-then-not-goes_on_with-clause-found
returns-then-not-goes_on_with-clause-found c at line_end =
    sym (ap (option_map (sum_up_to_most c.args.indent)) (definition-none (row_from at line_end c.args.self.now) (c.if-not-goes_on_with.ensures.found at line_end)))

pub returns-then-not-goes_on_with-clause-rest : goal.returns-then-not-goes_on_with-clause-rest
returns-then-not-goes_on_with-clause-rest c at line_end =
    let r = row_from at line_end c.args.self.now in
    sym (ap (λ o. without (unwrap_or o 0) r) (definition-none r (c.if-not-goes_on_with.ensures.found at line_end)))

pub returns-clause-found : goal.returns-clause-found
returns-clause-found c at line_end =
    let r = row_from at line_end c.args.self.now in
    ap Some (c.saturating_add.ensures ∙ ap (λ p. sum_up_to_most c.args.indent (1 + p)) (c.scan_padding-width.ensures.count at ∙ ap (λ x. padding x.columns) (c.take_bytes.ensures.rest at line_end)))
    ∙ sym (ap (option_map (sum_up_to_most c.args.indent)) (definition-some r (c.if-not-goes_on_with.ensures.found at line_end)))

pub returns-clause-rest : goal.returns-clause-rest
returns-clause-rest c at line_end =
    let r = row_from at line_end c.args.self.now in
    definition-following r (row_from at line_end c.take_bytes.new.self) (row_from at line_end c.scan_padding-width.new.self) c.scan_padding-width.result (definition-some r (c.if-not-goes_on_with.ensures.found at line_end))
    (c.take_bytes.ensures.rest at line_end) (c.scan_padding-width.ensures.count at) (c.scan_padding-width.ensures.rest at line_end)
