use Rattle.std.proofs.Common.{rules, map, option_map, ap, ◌∙◌, subst, ◌++◌, string_bytes}
use Rattle.std.proofs.lemmas.Result.{on_err_weaker, on_ok_weaker}
use Rattle.cmark_grammar.specs.Html.{id_attribute, class_attribute, other_attributes}
use Rattle.cmark_text.specs.Appended.{AppendsFront}
use Rattle.cmark_values.specs.Shown.{shown_attribute, text_bytes}
use Rattle.cmark_html.proofs.FrontSteps.{on_err, front_within, front_second, front_third, all_third}
use Rattle.cmark_html.proofs.heading.append_attributes.Goals as goal

pub returns-in_err-append_id : goal.returns-in_err-append_id
returns-in_err-append_id c = record {
  ok = search rules;
  err = on_err c.from_residual.result (front_within _ _ (id_attribute (option_map text_bytes c.args.id.now)) _ c.in_err-append_id.ensures.err);
}

pub returns-in_err-append_classes : goal.returns-in_err-append_classes
returns-in_err-append_classes c = record {
  ok = search rules;
  err =
      let id = id_attribute (option_map text_bytes c.args.id.now) in
      let classes = class_attribute (map text_bytes c.args.classes.now.items) in
      let others = other_attributes (map shown_attribute c.args.attrs.now.items) in
      on_err c.from_residual-in_err-append_classes.result
      (front_second _ _ _ id classes others c.in_ok-append_id.ensures.ok
      (subst (λ l. AppendsFront (string_bytes c.append_id.new.out) (string_bytes c.append_classes.new.out) (class_attribute (map text_bytes l))) c.as_slice.ensures.value c.in_err-append_classes.ensures.err));
}

pub returns : goal.returns
returns c = record {
  ok =
      let id = id_attribute (option_map text_bytes c.args.id.now) in
      let classes = class_attribute (map text_bytes c.args.classes.now.items) in
      let others = other_attributes (map shown_attribute c.args.attrs.now.items) in
      on_ok_weaker c.append_others.result
      (λ e. all_third _ _ _ _ id classes others c.in_ok-append_id.ensures.ok
      (c.in_ok-append_classes.ensures.ok ∙ ap (λ l. string_bytes c.append_id.new.out ++ class_attribute (map text_bytes l)) c.as_slice.ensures.value)
      (e ∙ ap (λ l. string_bytes c.append_classes.new.out ++ other_attributes (map shown_attribute l)) c.as_slice-2.ensures.value))
      c.append_others.ensures.ok;
  err =
      let id = id_attribute (option_map text_bytes c.args.id.now) in
      let classes = class_attribute (map text_bytes c.args.classes.now.items) in
      let others = other_attributes (map shown_attribute c.args.attrs.now.items) in
      on_err_weaker c.append_others.result
      (λ h. front_third _ _ _ _ id classes others c.in_ok-append_id.ensures.ok
      (c.in_ok-append_classes.ensures.ok ∙ ap (λ l. string_bytes c.append_id.new.out ++ class_attribute (map text_bytes l)) c.as_slice.ensures.value)
      (subst (λ l. AppendsFront (string_bytes c.append_classes.new.out) (string_bytes c.append_others.new.out) (other_attributes (map shown_attribute l))) c.as_slice-2.ensures.value h))
      c.append_others.ensures.err;
}
