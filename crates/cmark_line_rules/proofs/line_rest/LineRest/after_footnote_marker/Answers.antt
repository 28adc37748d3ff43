use Rattle.std.proofs.Common.{ap, ◌∙◌}
use Rattle.std.specs.Prelude.{option_map}
use Rattle.cmark_scan_lines.specs.LineMarkers.{footnote_at}
use Rattle.cmark_scan_lines.specs.LineStart.{row_from}
use Rattle.cmark_line_rules.specs.Rests.{row_of}
use Rattle.cmark_line_rules.specs.Starts.{label_shown}
use Rattle.cmark_line_rules.proofs.PrefixRows.{shallow-is}
use Rattle.cmark_line_rules.proofs.FootnoteStarts.{label-seen, content_end-following, label-found, label-closed, label-following}
use Rattle.cmark_line_rules.proofs.line_rest.LineRest.after_footnote_marker.Goals as goal

pub returns-in_err-size-clause-label : goal.returns-in_err-size-clause-label
unfolding row_of
returns-in_err-size-clause-label c =
    let rest = c.args.self in
    let is = shallow-is (row_of rest) (row_from rest.start rest.line_end c.scan_space_upto.new.self) c.scan_space_upto.result (c.scan_space_upto.ensures.count rest.start) (c.scan_space_upto.ensures.rest rest.start rest.line_end) in
    ap (option_map (label_shown (row_of rest))) c.from_residual.ensures ∙ c.in_err-size.ensures.found rest.start rest.line_end ∙ ap footnote_at is ∙ label-seen (row_of rest)

pub with_front-requires : goal.with_front-requires
unfolding row_of
with_front-requires c =
    let rest = c.args.self in
    ap (λ r. r.content_end) (c.scan_footnote_marker.ensures.rest rest.start rest.line_end) ∙ content_end-following (row_from rest.start rest.line_end c.scan_space_upto.new.self) ∙ ap (λ r. r.content_end) (c.scan_space_upto.ensures.rest rest.start rest.line_end)

pub returns-clause-label : goal.returns-clause-label
unfolding row_of
returns-clause-label c =
    let rest = c.args.self in
    let s = row_from rest.start rest.line_end c.scan_space_upto.new.self in
    let is = shallow-is (row_of rest) s c.scan_space_upto.result (c.scan_space_upto.ensures.count rest.start) (c.scan_space_upto.ensures.rest rest.start rest.line_end) in
    label-found (row_of rest) s c.in_ok-size.size is (c.in_ok-size.ensures.found rest.start rest.line_end)

pub returns-clause-inside : goal.returns-clause-inside
unfolding row_of
returns-clause-inside c old =
    let rest = c.args.self in
    let s = row_from rest.start rest.line_end c.scan_space_upto.new.self in
    let is = shallow-is (row_of rest) s c.scan_space_upto.result (c.scan_space_upto.ensures.count rest.start) (c.scan_space_upto.ensures.rest rest.start rest.line_end) in
    c.with_front.ensures ∙ c.scan_footnote_marker.ensures.rest rest.start rest.line_end ∙ label-following (row_of rest) s c.in_ok-size.size is (c.in_ok-size.ensures.found rest.start rest.line_end) old

pub returns-clause-closed : goal.returns-clause-closed
unfolding row_of
returns-clause-closed c =
    let rest = c.args.self in
    let s = row_from rest.start rest.line_end c.scan_space_upto.new.self in
    let is = shallow-is (row_of rest) s c.scan_space_upto.result (c.scan_space_upto.ensures.count rest.start) (c.scan_space_upto.ensures.rest rest.start rest.line_end) in
    label-closed (row_of rest) s c.in_ok-size.size is (c.in_ok-size.ensures.found rest.start rest.line_end) (c.in_ok-size.ensures.closed rest.start rest.line_end)
