use Rattle.std.proofs.Common.{suc, ap, ◌∙◌, drop, ◌≡◌, ◌+◌, arith}
use Rattle.cmark_scan_bytes.proofs.Lists.{rest_of}
use Rattle.cmark_scan_bytes.proofs.FootnoteSteps.{has_colon, label-some, label-no_colon, label-none, colon-following}
use Rattle.cmark_scan_bytes.proofs.footnote_marker.label_size.Goals as goal
use Rattle.cmark_scan_bytes.proofs.footnote_marker.label_size.Goals.{else-is_label-via-then-is_label+else-begins_with, else-is_label-via-else-is_label}

pub returns-then-begins_with-clause-value : goal.returns-then-begins_with-clause-value
returns-then-begins_with-clause-value c =
    label-some c.args.bytes.now c.in_ok-size.size c.in_ok-size.ensures.value c.if-is_label.ensures
    (c.if-begins_with.ensures ∙ ap has_colon (rest_of c.args.bytes.now (c.in_ok-size.size + 1) ∙ ap (λ n. drop n c.args.bytes.now) (let e : c.in_ok-size.size + 1 ≡ suc c.in_ok-size.size = omega arith in e)))

pub returns-then-begins_with-clause-colon : goal.returns-then-begins_with-clause-colon
returns-then-begins_with-clause-colon c =
    colon-following c.args.bytes.now c.in_ok-size.size
    (c.if-begins_with.ensures ∙ ap has_colon (rest_of c.args.bytes.now (c.in_ok-size.size + 1) ∙ ap (λ n. drop n c.args.bytes.now) (let e : c.in_ok-size.size + 1 ≡ suc c.in_ok-size.size = omega arith in e)))

pub returns-else-is_label-clause-value : goal.returns-else-is_label-clause-value
returns-else-is_label-clause-value c = elim c.else-is_label.branch [
  | else-is_label-via-then-is_label+else-begins_with w ↦ label-no_colon c.args.bytes.now c.in_ok-size.size c.in_ok-size.ensures.value w.if-is_label.ensures
      (w.if-begins_with.ensures ∙ ap has_colon (rest_of c.args.bytes.now (c.in_ok-size.size + 1) ∙ ap (λ n. drop n c.args.bytes.now) (let e : c.in_ok-size.size + 1 ≡ suc c.in_ok-size.size = omega arith in e)))
  | else-is_label-via-else-is_label w ↦ label-none c.args.bytes.now c.in_ok-size.size c.in_ok-size.ensures.value w.if-is_label.ensures
]
