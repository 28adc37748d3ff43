use Rattle.std.proofs.Common.{rules, ◌≡◌, ◌++◌, string_bytes, get_or, take, subst, sym, ap, ◌∙◌, arith}
use Rattle.std.proofs.lemmas.Str.{IsCharBoundary-after_ascii, IsCharBoundary-before_ascii}
use Rattle.cmark_grammar.specs.Escapes.{html_byte}
use Rattle.cmark_text.specs.Marks.{is_html_mark}
use Rattle.cmark_text.proofs.Escaping.{IsFirstMark, first_mark-position, Written, written_front, written_to_mark, written_past_mark, written_to_end, on_err, at_ok, at_err}
use Rattle.cmark_values.proofs.Kept.{all_kept-position}
use Rattle.cmark_text.proofs.Marks.{keeps-html_byte, ascii-html_mark}
use Rattle.cmark_text.proofs.escape.escape_html.Goals as goal

pub returns-in_err-push_str : goal.returns-in_err-push_str
returns-in_err-push_str c = record {
  ok = search rules;
  err = on_err c.from_residual.result (written_front html_byte _ _ _ _ _ c.loop-at.invariant.written c.in_err-push_str.ensures.bytes);
}

pub returns-in_err-push_str-2 : goal.returns-in_err-push_str-2
returns-in_err-push_str-2 c = record {
  ok = search rules;
  err =
      let first : IsFirstMark is_html_mark c.loop-at.rest.now c.in-Some.at = first_mark-position is_html_mark c.loop-at.rest.now c.in-Some.at c.find_html_mark.result c.find_html_mark.ensures c.in-Some.is in
      let front : c.range.result.now ≡ take c.in-Some.at c.loop-at.rest.now = grind (arith, c.range.ensures.value) in
      on_err c.from_residual-in_err-push_str-2.result (written_front html_byte _ _ _ _ _
      (written_to_mark html_byte is_html_mark keeps-html_byte _ _ _ _ c.loop-at.rest.now c.in-Some.at (omega (arith, first.below)) first.before c.loop-at.invariant.written (c.in_ok-push_str.ensures.bytes ∙ ap (λ l. string_bytes c.loop-at.out ++ l) front))
      c.in_err-push_str-2.ensures.bytes);
}

pub range_from-rest-requires : goal.range_from-rest-requires
range_from-rest-requires c =
    let first : IsFirstMark is_html_mark c.loop-at.rest.now c.in-Some.at = first_mark-position is_html_mark c.loop-at.rest.now c.in-Some.at c.find_html_mark.result c.find_html_mark.ensures c.in-Some.is in
    λ _. IsCharBoundary-after_ascii c.loop-at.rest.now c.in-Some.at c.loop-at.invariant.text first.below (ascii-html_mark (get_or c.loop-at.rest.now c.in-Some.at 0) first.here)

pub loop-at-preserved : goal.loop-at-preserved
loop-at-preserved c =
    let first : IsFirstMark is_html_mark c.loop-at.rest.now c.in-Some.at = first_mark-position is_html_mark c.loop-at.rest.now c.in-Some.at c.find_html_mark.result c.find_html_mark.ensures c.in-Some.is in
    let front : c.range.result.now ≡ take c.in-Some.at c.loop-at.rest.now = grind (arith, c.range.ensures.value) in
    let to_mark = written_to_mark html_byte is_html_mark keeps-html_byte _ _ _ _ c.loop-at.rest.now c.in-Some.at (omega (arith, first.below)) first.before c.loop-at.invariant.written (c.in_ok-push_str.ensures.bytes ∙ ap (λ l. string_bytes c.loop-at.out ++ l) front) in
    let entity : c.html_entity.result.now ≡ html_byte (get_or c.loop-at.rest.now c.in-Some.at 0) = c.html_entity.ensures ∙ ap (λ l. html_byte (get_or l c.in-Some.at 0)) c.as_bytes.ensures.value in
    record {
      text = c.range_from-rest.utf8;
      written = subst (λ l. Written html_byte (string_bytes c.args.out.now) (string_bytes c.push_str-in-Some.new.self) c.args.text.now l) (sym c.range_from-rest.ensures.value)
          (written_past_mark html_byte is_html_mark keeps-html_byte _ _ _ _ c.loop-at.rest.now c.in-Some.at first.below to_mark
          (c.in_ok-push_str-2.ensures.bytes ∙ ap (λ l. string_bytes c.push_str.new.self ++ l) entity));
    }

pub returns : goal.returns
returns c = record {
  ok =
      at_ok c.push_str-2.result _ _ _ c.push_str-2.ensures.bytes (λ ok.
      written_to_end html_byte is_html_mark keeps-html_byte _ _ _ _ c.loop-at.rest.now (all_kept-position is_html_mark c.loop-at.rest.now c.find_html_mark.result c.find_html_mark.ensures c.in_default.is) c.loop-at.invariant.written
      ok);
  err = at_err c.push_str-2.result _ _ _ c.push_str-2.ensures.bytes (λ err. written_front html_byte _ _ _ _ _ c.loop-at.invariant.written err);
}

pub range-requires-clause-end_boundary : goal.range-requires-clause-end_boundary
range-requires-clause-end_boundary c =
    let first : IsFirstMark is_html_mark c.loop-at.rest.now c.in-Some.at = first_mark-position is_html_mark c.loop-at.rest.now c.in-Some.at c.find_html_mark.result c.find_html_mark.ensures c.in-Some.is in
    IsCharBoundary-before_ascii c.loop-at.rest.now c.in-Some.at first.below (ascii-html_mark (get_or c.loop-at.rest.now c.in-Some.at 0) first.here)

pub html_entity-requires : goal.html_entity-requires
html_entity-requires c =
    let first : IsFirstMark is_html_mark c.loop-at.rest.now c.in-Some.at = first_mark-position is_html_mark c.loop-at.rest.now c.in-Some.at c.find_html_mark.result c.find_html_mark.ensures c.in-Some.is in
    ap (λ l. is_html_mark (get_or l c.in-Some.at 0)) c.as_bytes.ensures.value ∙ first.here
