use Rattle.std.proofs.Common.{rules, ◌∷◌, ◌++◌, sym, ap, ◌∙◌, subst, append-nil, string_bytes}
use Rattle.cmark_grammar.specs.Escapes.{escaped_html}
use Rattle.cmark_text.specs.Appended.{AppendsFront}
use Rattle.cmark_values.specs.Shown.{text_bytes}
use Rattle.cmark_html.proofs.FrontSteps.{on_err, appended_more, front_of_all, appended_all, class_bytes, further_classes-flat}
use Rattle.cmark_html.proofs.heading.append_further_classes.Goals as goal

pub loop-name-init : goal.loop-name-init
loop-name-init c = sym (append-nil (string_bytes c.args.out.now))

pub returns-in_err-append_parts : goal.returns-in_err-append_parts
returns-in_err-append_parts c = record {
  ok = search rules;
  err =
      on_err c.from_residual.result
      (subst (AppendsFront (string_bytes c.args.out.now) (string_bytes c.append_parts.new.out)) (sym (further_classes-flat c.args.names.now))
      (front_of_all class_bytes c.args.names.now c.loop-name.name-index c.name-item.result c.loop-name-test.true _ _ _ c.loop-name.invariant
      (subst (λ n. AppendsFront (string_bytes c.loop-name.out) (string_bytes c.append_parts.new.out) (32 ∷ escaped_html n)) (c.as_str.ensures ∙ ap text_bytes c.name-item.is) c.in_err-append_parts.ensures.err)));
}

pub loop-name-preserved : goal.loop-name-preserved
loop-name-preserved c =
    appended_more class_bytes c.args.names.now c.loop-name.name-index c.name-item.result c.loop-name-test.true _ _ _ c.loop-name.invariant
    (c.in_ok-append_parts.ensures.ok ∙ ap (λ n. string_bytes c.loop-name.out ++ (32 ∷ escaped_html n)) (c.as_str.ensures ∙ ap text_bytes c.name-item.is))

pub returns : goal.returns
returns c = record {
  ok =
      appended_all class_bytes c.args.names.now c.loop-name.name-index _ _ c.loop-name-test.false c.loop-name.invariant
      ∙ ap (λ l. string_bytes c.args.out.now ++ l) (sym (further_classes-flat c.args.names.now));
  err = search rules;
}
