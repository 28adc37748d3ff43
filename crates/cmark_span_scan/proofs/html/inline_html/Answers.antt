use Rattle.std.proofs.Common.{Some, ◌<◌, ◌-◌, length, drop, ap, sym, subst, ◌∙◌, arith}
use Rattle.std.proofs.lemmas.Grind.{common_steps}
use Rattle.std.specs.Str.{IsCharBoundary}
use Rattle.cmark_scan_bytes.proofs.Lists.{rest_of}
use Rattle.cmark_span_scan.proofs.HtmlSteps.{markup_value, instruction_value, other_value, tag_further, tag_ends}
use Rattle.cmark_span_scan.proofs.html.inline_html.Goals as goal

pub returns-then-starts-clause-value : goal.returns-then-starts-clause-value
returns-then-starts-clause-value c =
    let rest = rest_of c.as_bytes-bytes.result.now c.args.at ∙ ap (drop c.args.at) c.as_bytes-bytes.ensures.value in
    markup_value c.args.text.now c.args.at _ rest c.as_bytes-bytes.result.now c.scan_inline_html_comment.result.end c.as_bytes-bytes.ensures.value (sym c.starts.ensures.value ∙ c.if-starts.true) c.scan_inline_html_comment.ensures.end

pub returns-then-starts-2-clause-value : goal.returns-then-starts-2-clause-value
returns-then-starts-2-clause-value c =
    let rest = rest_of c.as_bytes-bytes.result.now c.args.at ∙ ap (drop c.args.at) c.as_bytes-bytes.ensures.value in
    instruction_value c.args.text.now c.args.at _ rest c.as_bytes-bytes.result.now c.scan_inline_html_processing.result.end c.as_bytes-bytes.ensures.value (sym c.starts.ensures.value ∙ c.if-starts.false)
    (sym c.starts-2.ensures.value ∙ c.if-starts-2.true) c.scan_inline_html_processing.ensures.end

pub returns-clause-value : goal.returns-clause-value
returns-clause-value c =
    let rest = rest_of c.as_bytes-bytes.result.now c.args.at ∙ ap (drop c.args.at) c.as_bytes-bytes.ensures.value in
    ap (λ n. Some (drop (n - length c.in_ok-following.following.now) c.args.text.now)) (ap length c.as_bytes-bytes.ensures.value)
    ∙ other_value c.args.text.now c.args.at _ rest c.in_ok-following.following.now c.in_ok-following.ensures.value (sym c.starts.ensures.value ∙ c.if-starts.false) (sym c.starts-2.ensures.value ∙ c.if-starts-2.false)

pub returns-clause-further : goal.returns-clause-further
returns-clause-further c =
    let rest = rest_of c.as_bytes-bytes.result.now c.args.at ∙ ap (drop c.args.at) c.as_bytes-bytes.ensures.value in
    subst (λ n. c.args.at < n - length c.in_ok-following.following.now) (sym (ap length c.as_bytes-bytes.ensures.value)) (tag_further c.args.text.now c.args.at _ c.in_ok-following.following.now rest c.in_ok-following.ensures.value)

pub returns-clause-ends : goal.returns-clause-ends
returns-clause-ends c =
    let rest = rest_of c.as_bytes-bytes.result.now c.args.at ∙ ap (drop c.args.at) c.as_bytes-bytes.ensures.value in
    subst (λ n. IsCharBoundary c.args.text.now (n - length c.in_ok-following.following.now)) (sym (ap length c.as_bytes-bytes.ensures.value))
    (tag_ends c.args.text.now c.args.at _ c.in_ok-following.following.now rest c.in_ok-following.ensures.value c.utf8.text)

pub returns-in_err-following-clause-value : goal.returns-in_err-following-clause-value
returns-in_err-following-clause-value c = grind (arith, common_steps)
