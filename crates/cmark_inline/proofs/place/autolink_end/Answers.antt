use Rattle.std.proofs.Common.{◌≤◌, ◌<◌, ◌+◌, ◌-◌, ℕ, List, length, drop, get_or, sym, ap, ◌∙◌, arith, true≢false}
use Rattle.std.proofs.lemmas.Str.{IsCharBoundary-before_ascii}
use Rattle.cmark_grammar.specs.Autolinks.{autolink_in}
use Rattle.cmark_scan_bytes.specs.Shown.{shown_cut}
use Rattle.cmark_inline.proofs.AutolinkSteps.{autolink-at}
use Rattle.cmark_inline.proofs.place.autolink_end.Goals as goal
use Rattle.cmark_inline.proofs.place.autolink_end.Goals.{else-end-at-via-then-end-at+else-is_char_boundary, else-end-at-via-else-end-at}

pub returns-then-is_char_boundary-clause-value : goal.returns-then-is_char_boundary-clause-value
returns-then-is_char_boundary-clause-value c =
    let lt = c.requires.within in
    (autolink-at c.contains-emails.result c.args.text.now c.args.at (shown_cut c.in_ok-end.field-0) (let q : c.args.at + 1 ≤ length c.args.text.now = omega (arith, lt) in q) c.in_ok-end.ensures.value).value
    ∙ ap (λ emails. autolink_in emails (drop (c.args.at + 1) c.args.text.now)) (c.contains-emails.ensures tt)

pub returns-else-end-at-clause-value : goal.returns-else-end-at-clause-value
returns-else-end-at-clause-value c =
    let lt = c.requires.within in
    let text : List ℕ = c.args.text.now in
    let h = autolink-at c.contains-emails.result text c.args.at (shown_cut c.in_ok-end.field-0) (let q : c.args.at + 1 ≤ length text = omega (arith, lt) in q) c.in_ok-end.ensures.value in
    let some = h.some in
    let high = h.within in
    let byte = h.closer in
    elim c.else-end-at.branch [
      | else-end-at-via-then-end-at+else-is_char_boundary w ↦ absurd (true≢false (sym (w.if-is_char_boundary.ensures.test.1 (IsCharBoundary-before_ascii text (c.in_ok-end.field-0.end - 1) (let q : c.in_ok-end.field-0.end - 1 < length text = omega (arith, some, high) in q)
          (let q : get_or text (c.in_ok-end.field-0.end - 1) 0 < 128 = omega (arith, byte) in q)))))
      | else-end-at-via-else-end-at w ↦ (let low = w.if-end-at.false in absurd (omega (arith, low, some)))
    ]
