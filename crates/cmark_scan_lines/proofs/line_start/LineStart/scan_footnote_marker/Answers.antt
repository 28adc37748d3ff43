use Rattle.std.proofs.Common.{Some, option_map, sym, ap, subst, ◌∙◌}
use Rattle.cmark_grammar.specs.Rows.{words_of}
use Rattle.cmark_scan_bytes.specs.Footnotes.{marked, IsClosed}
use Rattle.cmark_scan_lines.specs.LineStart.{row_from}
use Rattle.cmark_scan_lines.specs.LineMarkers.{after_footnote}
use Rattle.cmark_scan_lines.proofs.FootnoteRows.{found-at, flush-of, following-taken}
use Rattle.cmark_scan_lines.proofs.line_start.LineStart.scan_footnote_marker.Goals as goal

pub returns-in_err-size-clause-found : goal.returns-in_err-size-clause-found
returns-in_err-size-clause-found c at line_end =
    let r = row_from at line_end c.args.self.now in
    let found = found-at r c.ahead.result.now (c.ahead.ensures.words at line_end) (c.ahead.ensures.blank at line_end) in
    ap (λ o. option_map (marked (words_of r)) o) c.from_residual.ensures ∙ c.in_err-size.ensures.value ∙ sym found

pub returns-in_err-size-clause-rest : goal.returns-in_err-size-clause-rest
returns-in_err-size-clause-rest c at line_end =
    let r = row_from at line_end c.args.self.now in
    let found = found-at r c.ahead.result.now (c.ahead.ensures.words at line_end) (c.ahead.ensures.blank at line_end) in
    ap (λ o. after_footnote o r) (c.in_err-size.ensures.value ∙ sym found)

pub returns-clause-found : goal.returns-clause-found
returns-clause-found c at line_end =
    let r = row_from at line_end c.args.self.now in
    let size = c.in_ok-size.size in
    let is = c.in_ok-size.ensures.value ∙ sym (found-at r c.ahead.result.now (c.ahead.ensures.words at line_end) (c.ahead.ensures.blank at line_end)) in
    ap (λ l. Some (marked l size)) (c.ahead.ensures.words at line_end (flush-of r _ (sym is))) ∙ is

pub returns-clause-closed : goal.returns-clause-closed
returns-clause-closed c at line_end =
    let r = row_from at line_end c.args.self.now in
    let is = c.in_ok-size.ensures.value ∙ sym (found-at r c.ahead.result.now (c.ahead.ensures.words at line_end) (c.ahead.ensures.blank at line_end)) in
    subst (λ l. IsClosed l c.in_ok-size.size) (sym (c.ahead.ensures.words at line_end (flush-of r _ (sym is)))) c.in_ok-size.ensures.closed

pub returns-clause-rest : goal.returns-clause-rest
returns-clause-rest c at line_end =
    let r = row_from at line_end c.args.self.now in
    let bs = c.ahead.result.now in
    let found = found-at r bs (c.ahead.ensures.words at line_end) (c.ahead.ensures.blank at line_end) in
    following-taken r (row_from at line_end c.take_marker.new.self) (row_from at line_end c.scan_all_space.new.self) bs c.in_ok-size.size (c.in_ok-size.ensures.value ∙ sym found) c.in_ok-size.ensures.closed.0 (c.take_marker.ensures.rest at line_end) (c.scan_all_space.ensures at line_end)
