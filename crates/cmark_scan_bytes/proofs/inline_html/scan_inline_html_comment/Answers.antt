use Rattle.std.proofs.Common.{Some, drop, sym, ap, ◌∙◌}
use Rattle.cmark_grammar.specs.InlineHtml.{opened_in}
use Rattle.cmark_scan_bytes.specs.Guards.{closed_by}
use Rattle.cmark_scan_bytes.proofs.Lists.{rest_of}
use Rattle.cmark_scan_bytes.proofs.Endings.{find-boundary, opened-following}
use Rattle.cmark_scan_bytes.proofs.Marks.{marks-further}
use Rattle.cmark_scan_bytes.proofs.inline_html.scan_inline_html_comment.Goals as goal

pub returns-in-Some-clause-boundary : goal.returns-in-Some-clause-boundary
returns-in-Some-clause-boundary c utf8 =
    let bytes = c.args.bytes.now in
    find-boundary bytes c.args.ix (Some (closed_by c.in-Some.kind c.in-Some.inside.now)) _ c.find.ensures.end utf8
    (λ r e. opened-following (drop c.args.ix bytes) r (ap opened_in (sym (rest_of bytes c.args.ix)) ∙ c.in-Some.ensures.value ∙ e))

pub returns-in-None-clause-marks : goal.returns-in-None-clause-marks
returns-in-None-clause-marks c = λ later le. marks-further c.args.bytes.now c.args.guard.now c.args.ix later c.requires.marks le
