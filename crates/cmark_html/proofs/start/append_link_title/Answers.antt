use Rattle.std.proofs.Common.{rules, ◌++◌, codes, string_bytes, sym, ◌∙◌, subst, ap}
use Rattle.std.proofs.lemmas.Result.{on_err_weaker, on_ok_weaker}
use Rattle.cmark_grammar.specs.Escapes.{escaped_html}
use Rattle.cmark_text.specs.Appended.{AppendsFront}
use Rattle.cmark_html.proofs.FrontSteps.{on_err, front_within, front_second, front_third, no_title_piece, titled_piece, all_third}
use Rattle.cmark_html.proofs.start.append_link_title.Goals as goal

pub returns-then-is_empty : goal.returns-then-is_empty
returns-then-is_empty c = record {
  ok = search rules;
  err =
      on_err_weaker c.append.result
      (subst (AppendsFront (string_bytes c.args.out.now) (string_bytes c.append.new.out)) (no_title_piece c.args.title.now (sym c.is_empty.ensures ∙ c.if-is_empty.true)))
      c.append.ensures.err;
}

pub returns-in_err-append : goal.returns-in_err-append
returns-in_err-append c = record {
  ok = search rules;
  err =
      let title = c.args.title.now in
      on_err c.from_residual.result
      (subst (AppendsFront (string_bytes c.args.out.now) (string_bytes c.append-2.new.out)) (titled_piece title (sym c.is_empty.ensures ∙ c.if-is_empty.false))
      (front_within _ _ (codes "\" title=\"") (escaped_html title ++ codes "\">") c.in_err-append.ensures.err));
}

pub returns-in_err-escape_html : goal.returns-in_err-escape_html
returns-in_err-escape_html c = record {
  ok = search rules;
  err =
      let title = c.args.title.now in
      on_err c.from_residual-in_err-escape_html.result
      (subst (AppendsFront (string_bytes c.args.out.now) (string_bytes c.escape_html.new.out)) (titled_piece title (sym c.is_empty.ensures ∙ c.if-is_empty.false))
      (front_second _ _ _ (codes "\" title=\"") (escaped_html title) (codes "\">") c.in_ok-append.ensures.ok c.in_err-escape_html.ensures.err));
}

pub returns : goal.returns
returns c = record {
  ok =
      let title = c.args.title.now in
      on_ok_weaker c.append-3.result
      (λ e. all_third _ _ _ _ (codes "\" title=\"") (escaped_html title) (codes "\">") c.in_ok-append.ensures.ok c.in_ok-escape_html.ensures.ok e
      ∙ ap (λ l. string_bytes c.args.out.now ++ l) (titled_piece title (sym c.is_empty.ensures ∙ c.if-is_empty.false)))
      c.append-3.ensures.ok;
  err =
      let title = c.args.title.now in
      on_err_weaker c.append-3.result
      (λ front. subst (AppendsFront (string_bytes c.args.out.now) (string_bytes c.append-3.new.out)) (titled_piece title (sym c.is_empty.ensures ∙ c.if-is_empty.false))
      (front_third _ _ _ _ (codes "\" title=\"") (escaped_html title) (codes "\">") c.in_ok-append.ensures.ok c.in_ok-escape_html.ensures.ok front))
      c.append-3.ensures.err;
}
