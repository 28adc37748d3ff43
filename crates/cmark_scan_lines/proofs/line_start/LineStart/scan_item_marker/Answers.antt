use Rattle.std.proofs.Common.{◌+◌, Some, sym, ap, ◌∙◌, get_or}
use Rattle.std.specs.Prelude.{option_map}
use Rattle.cmark_grammar.specs.Columns.{is_blank_byte}
use Rattle.cmark_grammar.specs.Rows.{without}
use Rattle.cmark_grammar.specs.Leaves.{is_thematic_break}
use Rattle.cmark_grammar.specs.Containers.{padding}
use Rattle.cmark_scan_lines.specs.LineStart.{row_from}
use Rattle.cmark_scan_lines.specs.LineMarkers.{item_numbers, entered, sum_up_to_most}
use Rattle.cmark_scan_lines.proofs.RowSteps.{begun-none, begun-break, begun-parted, marker-some, marker-front, item-is, item_at, entered-is}
use Rattle.cmark_scan_lines.proofs.line_start.LineStart.scan_item_marker.Goals as goal

pub returns-in_err-marker-clause-found : goal.returns-in_err-marker-clause-found
returns-in_err-marker-clause-found c at line_end =
    let r = row_from at line_end c.args.self.now in
    let bs = c.ahead.result.now in
    c.from_residual.ensures
    ∙ ap (item_numbers c.args.indent) (ap (option_map (item_at r)) (begun-none bs c.in_err-marker.ensures.value) ∙ sym (item-is r bs (c.ahead.ensures.words at line_end) (c.ahead.ensures.blank at line_end)))

pub returns-in_err-marker-clause-rest : goal.returns-in_err-marker-clause-rest
returns-in_err-marker-clause-rest c at line_end =
    let r = row_from at line_end c.args.self.now in
    let bs = c.ahead.result.now in
    ap (λ o. entered o r) (ap (option_map (item_at r)) (begun-none bs c.in_err-marker.ensures.value) ∙ sym (item-is r bs (c.ahead.ensures.words at line_end) (c.ahead.ensures.blank at line_end)))

pub is_break-requires : goal.is_break-requires
is_break-requires c =
    let bs = c.ahead.result.now in
    let is = c.ahead.ensures.rest (marker-some bs _ c.in_ok-marker.ensures.value) in
    ap (λ l. is_blank_byte (get_or l 0 0)) (sym is) ∙ marker-front bs _ c.in_ok-marker.ensures.value

pub returns-then-is_break-clause-found : goal.returns-then-is_break-clause-found
returns-then-is_break-clause-found c at line_end =
    let r = row_from at line_end c.args.self.now in
    let bs = c.ahead.result.now in
    let stands = c.if-is_break.ensures.found ∙ ap is_thematic_break (sym (c.ahead.ensures.rest (marker-some bs _ c.in_ok-marker.ensures.value))) in
    ap (item_numbers c.args.indent) (ap (option_map (item_at r)) (begun-break bs stands) ∙ sym (item-is r bs (c.ahead.ensures.words at line_end) (c.ahead.ensures.blank at line_end)))

pub returns-then-is_break-clause-rest : goal.returns-then-is_break-clause-rest
returns-then-is_break-clause-rest c at line_end =
    let r = row_from at line_end c.args.self.now in
    let bs = c.ahead.result.now in
    let stands = c.if-is_break.ensures.found ∙ ap is_thematic_break (sym (c.ahead.ensures.rest (marker-some bs _ c.in_ok-marker.ensures.value))) in
    c.is_break.ensures.rest at line_end
    ∙ ap (λ o. entered o r) (ap (option_map (item_at r)) (begun-break bs stands) ∙ sym (item-is r bs (c.ahead.ensures.words at line_end) (c.ahead.ensures.blank at line_end)))

pub returns-clause-found : goal.returns-clause-found
returns-clause-found c at line_end =
    let r = row_from at line_end c.args.self.now in
    let bs = c.ahead.result.now in
    let m = c.in_ok-marker.marker in
    let no_break = c.if-is_break.ensures.found ∙ ap is_thematic_break (sym (c.ahead.ensures.rest (marker-some bs _ c.in_ok-marker.ensures.value))) in
    let pad = c.scan_padding.ensures.count at ∙ ap (λ x. padding x.columns) (c.take_bytes.ensures.rest at line_end ∙ ap (without m.size) (c.is_break.ensures.rest at line_end)) in
    ap (λ w. Some (m.delimiter, m.number, w)) (c.saturating_add.ensures ∙ ap (λ p. sum_up_to_most c.args.indent (m.size + p)) pad)
    ∙ ap (item_numbers c.args.indent) (ap (option_map (item_at r)) (c.in_ok-marker.ensures.value ∙ begun-parted bs no_break) ∙ sym (item-is r bs (c.ahead.ensures.words at line_end) (c.ahead.ensures.blank at line_end)))

pub returns-clause-rest : goal.returns-clause-rest
returns-clause-rest c at line_end =
    let r = row_from at line_end c.args.self.now in
    let bs = c.ahead.result.now in
    let m = c.in_ok-marker.marker in
    let no_break = c.if-is_break.ensures.found ∙ ap is_thematic_break (sym (c.ahead.ensures.rest (marker-some bs _ c.in_ok-marker.ensures.value))) in
    entered-is r (row_from at line_end c.take_bytes.new.self) (row_from at line_end c.scan_padding.new.self) m.delimiter m.number m.size c.scan_padding.result (c.take_bytes.ensures.rest at line_end ∙ ap (without m.size) (c.is_break.ensures.rest at line_end)) (c.scan_padding.ensures.count at) (c.scan_padding.ensures.rest at line_end)
    ∙ ap (λ o. entered o r) (ap (option_map (item_at r)) (c.in_ok-marker.ensures.value ∙ begun-parted bs no_break) ∙ sym (item-is r bs (c.ahead.ensures.words at line_end) (c.ahead.ensures.blank at line_end)))
