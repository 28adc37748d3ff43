use Rattle.std.proofs.Common.{◌+◌, inl, inr, drop, refl, sym, ap, ◌∙◌}
use Rattle.cmark_scan_bytes.proofs.Lists.{rest_of}
use Rattle.cmark_scan_bytes.proofs.Marks.{marks-further}
use Rattle.cmark_span_scan.proofs.HtmlSteps.{instruction_value, is_markup, markup_value}
use Rattle.cmark_span_scan.proofs.html.inline_markup.Goals as goal

pub returns-then-starts-clause-value : goal.returns-then-starts-clause-value
returns-then-starts-clause-value c =
    let rest = rest_of c.as_bytes-bytes.result.now c.args.at ∙ ap (drop c.args.at) c.as_bytes-bytes.ensures.value in
    let opens = sym c.starts.ensures.value ∙ c.if-starts.true in
    markup_value c.args.text.now c.args.at _ rest c.as_bytes-bytes.result.now c.scan_inline_html_comment.result.end c.as_bytes-bytes.ensures.value opens c.scan_inline_html_comment.ensures.end
    ∙ is_markup c.args.text.now c.args.at _ rest _ _ opens refl (inl refl)

pub returns-then-starts-2-clause-value : goal.returns-then-starts-2-clause-value
returns-then-starts-2-clause-value c =
    let rest = rest_of c.as_bytes-bytes.result.now c.args.at ∙ ap (drop c.args.at) c.as_bytes-bytes.ensures.value in
    let other = sym c.starts.ensures.value ∙ c.if-starts.false in
    let opens = sym c.starts-2.ensures.value ∙ c.if-starts-2.true in
    instruction_value c.args.text.now c.args.at _ rest c.as_bytes-bytes.result.now c.scan_inline_html_processing.result.end c.as_bytes-bytes.ensures.value other opens c.scan_inline_html_processing.ensures.end
    ∙ is_markup c.args.text.now c.args.at _ rest _ _ other opens (inr refl)

pub returns-clause-marks : goal.returns-clause-marks
returns-clause-marks c = λ later le. marks-further c.args.text.now c.args.guard.now (c.args.at + 2) later c.requires.marks le
