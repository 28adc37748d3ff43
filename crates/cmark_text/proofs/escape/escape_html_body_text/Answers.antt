use Rattle.std.proofs.Common.{◌++◌, string_bytes, sym, ap, ◌∙◌}
use Rattle.cmark_grammar.specs.Escapes.{body_text_byte}
use Rattle.cmark_text.specs.Marks.{is_body_text_mark}
use Rattle.cmark_text.proofs.Escaping.{all_kept-byte, at_ok, at_err, kept_whole, written_front, written_none}
use Rattle.cmark_text.proofs.Marks.{keeps-body_text_byte}
use Rattle.cmark_text.proofs.escape.escape_html_body_text.Goals as goal

pub returns-in-None : goal.returns-in-None
returns-in-None c = record {
  ok =
      at_ok c.push_str.result _ _ _ c.push_str.ensures.bytes (λ ok.
      ok ∙ ap (λ l. string_bytes c.args.out.now ++ l) (sym (kept_whole body_text_byte is_body_text_mark keeps-body_text_byte c.args.text.now (all_kept-byte is_body_text_mark c.args.text.now c.in-None.ensures))));
  err =
      at_err c.push_str.result _ _ _ c.push_str.ensures.bytes (λ err.
      written_front body_text_byte (string_bytes c.args.out.now) (string_bytes c.args.out.now) _ c.args.text.now c.args.text.now (written_none body_text_byte (string_bytes c.args.out.now) c.args.text.now) err);
}
