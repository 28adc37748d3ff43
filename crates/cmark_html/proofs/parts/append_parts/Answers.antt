use Rattle.std.proofs.Common.{rules, ◌++◌, sym, ap, ◌∙◌, subst, append-nil, string_bytes}
use Rattle.cmark_text.specs.Appended.{AppendsFront}
use Rattle.cmark_html.specs.Parts.{part_bytes}
use Rattle.cmark_html.proofs.FrontSteps.{on_err, appended_more, front_of_all, appended_all, joined-flat}
use Rattle.cmark_html.proofs.parts.append_parts.Goals as goal

pub loop-part-init : goal.loop-part-init
loop-part-init c = sym (append-nil (string_bytes c.args.out.now))

pub returns-in_err-append_part : goal.returns-in_err-append_part
returns-in_err-append_part c = record {
  ok = search rules;
  err =
      on_err c.from_residual.result
      (subst (AppendsFront (string_bytes c.args.out.now) (string_bytes c.append_part.new.out)) (sym (joined-flat c.args.parts.now))
      (front_of_all part_bytes c.args.parts.now c.loop-part.part-index _ c.loop-part-test.true _ _ _ c.loop-part.invariant c.in_err-append_part.ensures.err));
}

pub loop-part-preserved : goal.loop-part-preserved
loop-part-preserved c = appended_more part_bytes c.args.parts.now c.loop-part.part-index _ c.loop-part-test.true _ _ _ c.loop-part.invariant c.in_ok-append_part.ensures.ok

pub returns : goal.returns
returns c = record {
  ok =
      appended_all part_bytes c.args.parts.now c.loop-part.part-index _ _ c.loop-part-test.false c.loop-part.invariant
      ∙ ap (λ l. string_bytes c.args.out.now ++ l) (sym (joined-flat c.args.parts.now));
  err = search rules;
}
