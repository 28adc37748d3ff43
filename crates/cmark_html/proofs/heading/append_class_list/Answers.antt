use Rattle.std.proofs.Common.{rules, map, codes}
use Rattle.std.proofs.lemmas.Result.{on_err_weaker, on_ok_weaker}
use Rattle.cmark_grammar.specs.Html.{further_classes}
use Rattle.cmark_values.specs.Shown.{text_bytes}
use Rattle.cmark_html.specs.Parts.{class_start}
use Rattle.cmark_html.proofs.FrontSteps.{on_err, front_within, front_second, front_third, all_third}
use Rattle.cmark_html.proofs.heading.append_class_list.Goals as goal

pub returns-in_err-append_parts : goal.returns-in_err-append_parts
returns-in_err-append_parts c = record {
  ok = search rules;
  err = on_err c.from_residual.result (front_within _ _ (class_start c.args.first.now) _ c.in_err-append_parts.ensures.err);
}

pub returns-in_err-append_further_classes : goal.returns-in_err-append_further_classes
returns-in_err-append_further_classes c = record {
  ok = search rules;
  err =
      on_err c.from_residual-in_err-append_further_classes.result
      (front_second _ _ _ (class_start c.args.first.now) (further_classes (map text_bytes c.args.others.now)) (codes "\"") c.in_ok-append_parts.ensures.ok c.in_err-append_further_classes.ensures.err);
}

pub returns : goal.returns
returns c = record {
  ok =
      on_ok_weaker c.append.result
      (all_third _ _ _ _ (class_start c.args.first.now) (further_classes (map text_bytes c.args.others.now)) (codes "\"") c.in_ok-append_parts.ensures.ok c.in_ok-append_further_classes.ensures.ok)
      c.append.ensures.ok;
  err =
      on_err_weaker c.append.result
      (front_third _ _ _ _ (class_start c.args.first.now) (further_classes (map text_bytes c.args.others.now)) (codes "\"") c.in_ok-append_parts.ensures.ok c.in_ok-append_further_classes.ensures.ok)
      c.append.ensures.err;
}
