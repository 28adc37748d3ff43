use Rattle.std.proofs.Common.{rules, ◌++◌, codes}
use Rattle.cmark_grammar.specs.Escapes.{escaped_body_text}
use Rattle.cmark_html.proofs.FrontSteps.{on_err, front_within, front_second, front_third}
use Rattle.cmark_html.proofs.short.write_code.Goals as goal

pub returns-in_err-append-clause-writes : goal.returns-in_err-append-clause-writes
returns-in_err-append-clause-writes c = record {
  ok = search rules;
  err = on_err c.from_residual.result (front_within _ _ (codes "<code>") (escaped_body_text c.args.text.now ++ codes "</code>") c.in_err-append.ensures.err);
}

pub returns-in_err-escape_html_body_text-clause-writes : goal.returns-in_err-escape_html_body_text-clause-writes
returns-in_err-escape_html_body_text-clause-writes c = record {
  ok = search rules;
  err =
      on_err c.from_residual-in_err-escape_html_body_text.result
      (front_second _ _ _ (codes "<code>") (escaped_body_text c.args.text.now) (codes "</code>") c.in_ok-append.ensures.ok c.in_err-escape_html_body_text.ensures.err);
}

pub returns-in_err-append-2-clause-writes : goal.returns-in_err-append-2-clause-writes
returns-in_err-append-2-clause-writes c = record {
  ok = search rules;
  err =
      on_err c.from_residual-in_err-append-2.result
      (front_third _ _ _ _ (codes "<code>") (escaped_body_text c.args.text.now) (codes "</code>") c.in_ok-append.ensures.ok c.in_ok-escape_html_body_text.ensures.ok c.in_err-append-2.ensures.err);
}
