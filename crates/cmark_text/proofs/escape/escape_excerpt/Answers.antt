use Rattle.std.proofs.Common.{◌≡◌, ◌++◌, string_bytes, sym, ap, ◌∙◌}
use Rattle.cmark_grammar.specs.Escapes.{body_text_byte, escaped_body_text}
use Rattle.cmark_text.specs.Excerpt.{excerpt_bytes}
use Rattle.cmark_text.specs.Marks.{is_body_text_mark}
use Rattle.cmark_text.proofs.Escaping.{all_kept-byte, kept_whole, then_ok, then_err, written_front, written_none}
use Rattle.cmark_text.proofs.Marks.{keeps-body_text_byte}
use Rattle.cmark_text.proofs.escape.escape_excerpt.Goals as goal

pub returns-in-None : goal.returns-in-None
returns-in-None c = record {
  ok =
      let bytes = excerpt_bytes c.args.excerpt in
      let kept : escaped_body_text bytes ≡ bytes = kept_whole body_text_byte is_body_text_mark keeps-body_text_byte bytes (all_kept-byte is_body_text_mark bytes c.in-None.ensures) in
      then_ok c.append_excerpt.result c.append_excerpt.ensures.ok (λ ok. ok ∙ ap (λ l. string_bytes c.args.out.now ++ l) (sym kept));
  err =
      let bytes = excerpt_bytes c.args.excerpt in
      then_err c.append_excerpt.result c.append_excerpt.ensures.err (λ err.
      written_front body_text_byte (string_bytes c.args.out.now) (string_bytes c.args.out.now) _ bytes bytes (written_none body_text_byte (string_bytes c.args.out.now) bytes) err);
}
