use Rattle.std.proofs.Common.{rules, ◌≡◌, ◌++◌, string_bytes, get_or, take, subst, sym, ap, ◌∙◌, arith}
use Rattle.std.proofs.lemmas.Str.{IsCharBoundary-after_ascii}
use Rattle.memchr.specs.Find.{IsFirstByte}
use Rattle.cmark_grammar.specs.Escapes.{body_text_byte}
use Rattle.cmark_text.specs.Marks.{is_body_text_mark}
use Rattle.cmark_text.proofs.Escaping.{IsFirstMark, first_mark-byte, all_kept-byte, Written, written_front, written_to_mark, written_past_mark, written_to_end, on_err, at_ok, at_err}
use Rattle.cmark_text.proofs.Marks.{keeps-body_text_byte, ascii-body_text_mark}
use Rattle.cmark_text.proofs.escape.escape_from.Goals as goal

pub returns-in_err-push_str : goal.returns-in_err-push_str
returns-in_err-push_str c = record {
  ok = search rules;
  err = on_err c.from_residual.result (written_front body_text_byte _ _ _ _ _ c.loop-found.invariant.written c.in_err-push_str.ensures.bytes);
}

pub returns-in_err-push_str-2 : goal.returns-in_err-push_str-2
returns-in_err-push_str-2 c = record {
  ok = search rules;
  err =
      let first : IsFirstMark is_body_text_mark c.loop-found.rest.now c.in-Some.at = first_mark-byte is_body_text_mark c.loop-found.rest.now c.in-Some.at (subst (IsFirstByte is_body_text_mark c.loop-found.rest.now) c.in-Some.is c.loop-found.invariant.found) in
      let front : c.range.result.now ≡ take c.in-Some.at c.loop-found.rest.now = grind (arith, c.range.ensures.value) in
      on_err c.from_residual-in_err-push_str-2.result (written_front body_text_byte _ _ _ _ _
      (written_to_mark body_text_byte is_body_text_mark keeps-body_text_byte _ _ _ _ c.loop-found.rest.now c.in-Some.at (omega (arith, first.below)) first.before c.loop-found.invariant.written (c.in_ok-push_str.ensures.bytes ∙ ap (λ l. string_bytes c.loop-found.out ++ l) front))
      c.in_err-push_str-2.ensures.bytes);
}

pub range_from-rest-requires : goal.range_from-rest-requires
range_from-rest-requires c =
    let first : IsFirstMark is_body_text_mark c.loop-found.rest.now c.in-Some.at = first_mark-byte is_body_text_mark c.loop-found.rest.now c.in-Some.at (subst (IsFirstByte is_body_text_mark c.loop-found.rest.now) c.in-Some.is c.loop-found.invariant.found) in
    λ _. IsCharBoundary-after_ascii c.loop-found.rest.now c.in-Some.at c.loop-found.invariant.text first.below (ascii-body_text_mark (get_or c.loop-found.rest.now c.in-Some.at 0) first.here)

pub loop-found-preserved : goal.loop-found-preserved
loop-found-preserved c =
    let first : IsFirstMark is_body_text_mark c.loop-found.rest.now c.in-Some.at = first_mark-byte is_body_text_mark c.loop-found.rest.now c.in-Some.at (subst (IsFirstByte is_body_text_mark c.loop-found.rest.now) c.in-Some.is c.loop-found.invariant.found) in
    let front : c.range.result.now ≡ take c.in-Some.at c.loop-found.rest.now = grind (arith, c.range.ensures.value) in
    let to_mark = written_to_mark body_text_byte is_body_text_mark keeps-body_text_byte _ _ _ _ c.loop-found.rest.now c.in-Some.at (omega (arith, first.below)) first.before c.loop-found.invariant.written (c.in_ok-push_str.ensures.bytes ∙ ap (λ l. string_bytes c.loop-found.out ++ l) front) in
    let entity : c.body_text_entity.result.now ≡ body_text_byte (get_or c.loop-found.rest.now c.in-Some.at 0) = c.body_text_entity.ensures ∙ ap (λ l. body_text_byte (get_or l c.in-Some.at 0)) c.as_bytes.ensures.value in
    record {
      text = c.range_from-rest.utf8;
      written = subst (λ l. Written body_text_byte (string_bytes c.args.out.now) (string_bytes c.push_str-in-Some.new.self) c.args.text.now l) (sym c.range_from-rest.ensures.value)
          (written_past_mark body_text_byte is_body_text_mark keeps-body_text_byte _ _ _ _ c.loop-found.rest.now c.in-Some.at first.below to_mark
          (c.in_ok-push_str-2.ensures.bytes ∙ ap (λ l. string_bytes c.push_str.new.self ++ l) entity));
      found = c.find_body_text_mark-found.ensures;
    }

pub returns : goal.returns
returns c = record {
  ok =
      at_ok c.push_str-2.result _ _ _ c.push_str-2.ensures.bytes (λ ok.
      written_to_end body_text_byte is_body_text_mark keeps-body_text_byte _ _ _ _ c.loop-found.rest.now (all_kept-byte is_body_text_mark c.loop-found.rest.now (subst (IsFirstByte is_body_text_mark c.loop-found.rest.now) c.in_default.is c.loop-found.invariant.found)) c.loop-found.invariant.written
      ok);
  err = at_err c.push_str-2.result _ _ _ c.push_str-2.ensures.bytes (λ err. written_front body_text_byte _ _ _ _ _ c.loop-found.invariant.written err);
}
