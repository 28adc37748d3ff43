use Rattle.std.proofs.Common.{rules, ◌++◌, sym, ap, ◌∙◌, subst, append-nil, string_bytes}
use Rattle.cmark_text.specs.Appended.{AppendsFront}
use Rattle.cmark_html.proofs.FrontSteps.{on_err, appended_more, front_of_all, appended_all, attribute_bytes, other_attributes-flat}
use Rattle.cmark_html.proofs.heading.append_others.Goals as goal

pub loop-attribute-init : goal.loop-attribute-init
loop-attribute-init c = sym (append-nil (string_bytes c.args.out.now))

pub returns-in_err-append_other : goal.returns-in_err-append_other
returns-in_err-append_other c = record {
  ok = search rules;
  err =
      on_err c.from_residual.result
      (subst (AppendsFront (string_bytes c.args.out.now) (string_bytes c.append_other.new.out)) (sym (other_attributes-flat c.args.attrs.now))
      (front_of_all attribute_bytes c.args.attrs.now c.loop-attribute.attribute-index c.attribute-item.result c.loop-attribute-test.true _ _ _ c.loop-attribute.invariant
      (subst (λ a. AppendsFront (string_bytes c.loop-attribute.out) (string_bytes c.append_other.new.out) (attribute_bytes a)) c.attribute-item.is c.in_err-append_other.ensures.err)));
}

pub loop-attribute-preserved : goal.loop-attribute-preserved
loop-attribute-preserved c =
    appended_more attribute_bytes c.args.attrs.now c.loop-attribute.attribute-index c.attribute-item.result c.loop-attribute-test.true _ _ _ c.loop-attribute.invariant
    (c.in_ok-append_other.ensures.ok ∙ ap (λ a. string_bytes c.loop-attribute.out ++ attribute_bytes a) c.attribute-item.is)

pub returns : goal.returns
returns c = record {
  ok =
      appended_all attribute_bytes c.args.attrs.now c.loop-attribute.attribute-index _ _ c.loop-attribute-test.false c.loop-attribute.invariant
      ∙ ap (λ l. string_bytes c.args.out.now ++ l) (sym (other_attributes-flat c.args.attrs.now));
  err = search rules;
}
