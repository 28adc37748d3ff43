use Rattle.std.proofs.Common.{rules, ◌++◌, codes, string_bytes, sym, ap, ◌∙◌}
use Rattle.std.proofs.lemmas.Result.{on_ok_weaker}
use Rattle.cmark_grammar.specs.Escapes.{escaped_html}
use Rattle.cmark_grammar.specs.Html.{fresh_line}
use Rattle.cmark_html.proofs.FrontSteps.{fenced_piece}
use Rattle.cmark_html.proofs.start.append_fenced.Goals as goal

pub returns : goal.returns
returns c = record {
  ok =
      let language = c.args.language.now in
      on_ok_weaker c.append_parts.result
      (λ e. e ∙ ap (λ l. string_bytes c.args.out.now ++ (l ++ (codes "<pre><code class=\"language-" ++ (escaped_html language ++ codes "\">")))) c.new_line.ensures
      ∙ ap (λ l. string_bytes c.args.out.now ++ (fresh_line c.args.line_start ++ l)) (fenced_piece language (sym c.is_empty.ensures ∙ c.if-is_empty.false)))
      c.append_parts.ensures.ok;
  err = search rules;
}
