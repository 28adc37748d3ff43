use Rattle.std.proofs.Common.{rules, ◌++◌, string_bytes, sym, ap, subst, false, append_assoc, ◌∙◌}
use Rattle.std.proofs.lemmas.Result.{on_err_weaker, on_ok_weaker}
use Rattle.cmark_grammar.specs.Html.{fresh_line}
use Rattle.cmark_text.specs.Appended.{AppendsFront}
use Rattle.cmark_html.proofs.FrontSteps.{on_err, front_after, front_within}
use Rattle.cmark_html.proofs.parts.append_on_line.Goals as goal

pub returns-in_err-append : goal.returns-in_err-append
returns-in_err-append c = record {
  ok = search rules;
  err =
      on_err c.from_residual.result
      (subst (λ l. AppendsFront (string_bytes c.args.out.now) (string_bytes c.append-2.new.out) (l ++ c.args.text.now)) (ap fresh_line (sym c.if-line_start.false)) (front_within _ _ _ _ c.in_err-append.ensures.err));
}

pub returns : goal.returns
returns c = record {
  ok =
      on_ok_weaker c.append-3.result
      (λ e. e ∙ ap (λ l. l ++ c.args.text.now) c.in_ok-append.ensures.ok ∙ append_assoc (string_bytes c.args.out.now) (fresh_line false) c.args.text.now
      ∙ ap (λ b. string_bytes c.args.out.now ++ (fresh_line b ++ c.args.text.now)) (sym c.if-line_start.false))
      c.append-3.ensures.ok;
  err =
      on_err_weaker c.append-3.result
      (λ h. subst (λ l. AppendsFront (string_bytes c.args.out.now) (string_bytes c.append-3.new.out) (l ++ c.args.text.now)) (ap fresh_line (sym c.if-line_start.false)) (front_after _ _ _ _ _ c.in_ok-append.ensures.ok h))
      c.append-3.ensures.err;
}
