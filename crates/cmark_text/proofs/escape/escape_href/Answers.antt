use Rattle.std.proofs.Common.{rules, ◌++◌, string_bytes, get_or, drop, subst, ap, ◌∙◌, arith}
use Rattle.std.proofs.Math.Seq.{drop-length}
use Rattle.cmark_grammar.specs.Escapes.{href_byte}
use Rattle.cmark_text.specs.Appended.{AppendsFront}
use Rattle.cmark_text.specs.Marks.{is_href_mark}
use Rattle.cmark_text.proofs.Escaping.{Written, written_all, written_front, written_within_mark, written_to, written_past_mark, on_err}
use Rattle.cmark_text.proofs.Marks.{keeps-href_byte}
use Rattle.cmark_text.proofs.escape.escape_href.Goals as goal

pub returns-in_err-push_kept : goal.returns-in_err-push_kept
returns-in_err-push_kept c = record {
  ok = search rules;
  err = on_err c.from_residual.result (written_front href_byte _ _ _ _ _ c.loop-from.invariant.written c.in_err-push_kept.ensures.err);
}

pub returns-in_err-push_href_byte : goal.returns-in_err-push_href_byte
returns-in_err-push_href_byte c = record {
  ok = search rules;
  err =
      let at = c.find_href_mark-at.ensures in
      let kept = written_to href_byte is_href_mark keeps-href_byte _ _ _ c.args.url.now c.loop-from.from c.find_href_mark-at.result at.past at.in_bounds at.kept c.loop-from.invariant.written c.in_ok-push_kept.ensures.ok in
      on_err c.from_residual-in_err-push_href_byte.result
      (written_within_mark href_byte _ _ _ c.args.url.now c.find_href_mark-at.result (omega (arith, at.in_bounds)) kept
      (subst (λ l. AppendsFront (string_bytes c.push_kept.new.out) (string_bytes c.push_href_byte.new.out) (href_byte (get_or l c.find_href_mark-at.result 0))) c.as_bytes.ensures.value c.in_err-push_href_byte.ensures.err));
}

pub loop-from-preserved : goal.loop-from-preserved
loop-from-preserved c =
    let at = c.find_href_mark-at.ensures in
    let kept = written_to href_byte is_href_mark keeps-href_byte _ _ _ c.args.url.now c.loop-from.from c.find_href_mark-at.result at.past at.in_bounds at.kept c.loop-from.invariant.written c.in_ok-push_kept.ensures.ok in
    record {
      in_bounds = omega (arith, at.in_bounds);
      written = written_past_mark href_byte is_href_mark keeps-href_byte _ _ _ c.args.url.now c.args.url.now c.find_href_mark-at.result (omega (arith, at.in_bounds)) kept
          (c.in_ok-push_href_byte.ensures.ok ∙ ap (λ l. string_bytes c.push_kept.new.out ++ href_byte (get_or l c.find_href_mark-at.result 0)) c.as_bytes.ensures.value);
    }

pub returns-then-at-url : goal.returns-then-at-url
returns-then-at-url c = record {
  ok =
      let at = c.find_href_mark-at.ensures in
      let kept = written_to href_byte is_href_mark keeps-href_byte _ _ _ c.args.url.now c.loop-from.from c.find_href_mark-at.result at.past at.in_bounds at.kept c.loop-from.invariant.written c.in_ok-push_kept.ensures.ok in
      written_all href_byte _ _ c.args.url.now (subst (λ l. Written href_byte (string_bytes c.args.out.now) (string_bytes c.push_kept.new.out) c.args.url.now l) (ap (λ n. drop n c.args.url.now) c.if-at-url.true ∙ drop-length c.args.url.now) kept);
  err = search rules;
}
