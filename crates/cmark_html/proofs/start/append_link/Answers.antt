use Rattle.std.proofs.Common.{rules, ◌++◌, codes, string_bytes, subst, ap, ◌∙◌}
use Rattle.std.proofs.lemmas.Result.{on_err_weaker, on_ok_weaker}
use Rattle.cmark_grammar.specs.Escapes.{escaped_href}
use Rattle.cmark_grammar.specs.Html.{scheme, title_attribute}
use Rattle.cmark_text.specs.Appended.{AppendsFront}
use Rattle.cmark_values.specs.Shown.{shown_link_type}
use Rattle.cmark_html.proofs.FrontSteps.{on_err, front_within, front_second, front_third, link_piece, all_third}
use Rattle.cmark_html.proofs.start.append_link.Goals as goal

pub returns-in_err-append : goal.returns-in_err-append
returns-in_err-append c = record {
  ok = search rules;
  err =
      on_err c.from_residual.result
      (subst (AppendsFront (string_bytes c.args.out.now) (string_bytes c.append.new.out)) (link_piece (scheme (shown_link_type c.args.link_type)) c.args.dest_url.now c.args.title.now c.link_front.result.now c.link_front.ensures)
      (front_within _ _ c.link_front.result.now (escaped_href c.args.dest_url.now ++ (codes "\"" ++ (title_attribute c.args.title.now ++ codes ">"))) c.in_err-append.ensures.err));
}

pub returns-in_err-escape_href : goal.returns-in_err-escape_href
returns-in_err-escape_href c = record {
  ok = search rules;
  err =
      on_err c.from_residual-in_err-escape_href.result
      (subst (AppendsFront (string_bytes c.args.out.now) (string_bytes c.escape_href.new.out)) (link_piece (scheme (shown_link_type c.args.link_type)) c.args.dest_url.now c.args.title.now c.link_front.result.now c.link_front.ensures)
      (front_second _ _ _ c.link_front.result.now (escaped_href c.args.dest_url.now) (codes "\"" ++ (title_attribute c.args.title.now ++ codes ">")) c.in_ok-append.ensures.ok c.in_err-escape_href.ensures.err));
}

pub returns : goal.returns
returns c = record {
  ok =
      on_ok_weaker c.append_link_title.result
      (λ e. all_third _ _ _ _ c.link_front.result.now (escaped_href c.args.dest_url.now) (codes "\"" ++ (title_attribute c.args.title.now ++ codes ">")) c.in_ok-append.ensures.ok c.in_ok-escape_href.ensures.ok e
      ∙ ap (λ l. string_bytes c.args.out.now ++ l) (link_piece (scheme (shown_link_type c.args.link_type)) c.args.dest_url.now c.args.title.now c.link_front.result.now c.link_front.ensures))
      c.append_link_title.ensures.ok;
  err =
      on_err_weaker c.append_link_title.result
      (λ front. subst (AppendsFront (string_bytes c.args.out.now) (string_bytes c.append_link_title.new.out)) (link_piece (scheme (shown_link_type c.args.link_type)) c.args.dest_url.now c.args.title.now c.link_front.result.now c.link_front.ensures)
      (front_third _ _ _ _ c.link_front.result.now (escaped_href c.args.dest_url.now) (codes "\"" ++ (title_attribute c.args.title.now ++ codes ">")) c.in_ok-append.ensures.ok c.in_ok-escape_href.ensures.ok front))
      c.append_link_title.ensures.err;
}
