use Rattle.std.proofs.Common.{rules, ◌++◌, ap, ◌∙◌, subst, string_bytes, codes}
use Rattle.std.proofs.lemmas.Result.{on_err_weaker, on_ok_weaker}
use Rattle.cmark_grammar.specs.Html.{fresh_line, heading_attributes}
use Rattle.cmark_text.specs.Appended.{AppendsFront}
use Rattle.cmark_values.specs.Shown.{shown_attributes, level_number}
use Rattle.cmark_html.specs.Parts.{heading_start}
use Rattle.cmark_html.proofs.FrontSteps.{on_err, front_within, front_second, front_third, heading_parts, all_third}
use Rattle.cmark_html.proofs.heading.append_heading.Goals as goal

pub returns-in_err-append_parts : goal.returns-in_err-append_parts
returns-in_err-append_parts c = record {
  ok = search rules;
  err =
      let attributes = heading_attributes (shown_attributes c.args.id.now c.args.classes.now.items c.args.attrs.now.items) in
      let start = heading_start c.args.line_start (level_number c.args.level) in
      on_err c.from_residual.result
      (subst (AppendsFront (string_bytes c.args.out.now) (string_bytes c.append_parts.new.out)) (heading_parts c.args.line_start (level_number c.args.level) (attributes ++ codes ">"))
      (front_within _ _ start (attributes ++ codes ">") (subst (AppendsFront (string_bytes c.args.out.now) (string_bytes c.append_parts.new.out)) (ap (λ l. l ++ c.heading_text.result.now) c.new_line.ensures ∙ ap (λ l. fresh_line c.args.line_start ++ l) c.heading_text.ensures) c.in_err-append_parts.ensures.err)));
}

pub returns-in_err-append_attributes : goal.returns-in_err-append_attributes
returns-in_err-append_attributes c = record {
  ok = search rules;
  err =
      let attributes = heading_attributes (shown_attributes c.args.id.now c.args.classes.now.items c.args.attrs.now.items) in
      let start = heading_start c.args.line_start (level_number c.args.level) in
      on_err c.from_residual-in_err-append_attributes.result
      (subst (AppendsFront (string_bytes c.args.out.now) (string_bytes c.append_attributes.new.out)) (heading_parts c.args.line_start (level_number c.args.level) (attributes ++ codes ">"))
      (front_second _ _ _ start attributes (codes ">")
      (c.in_ok-append_parts.ensures.ok ∙ ap (λ l. string_bytes c.args.out.now ++ l) (ap (λ l. l ++ c.heading_text.result.now) c.new_line.ensures ∙ ap (λ l. fresh_line c.args.line_start ++ l) c.heading_text.ensures))
      c.in_err-append_attributes.ensures.err));
}

pub returns : goal.returns
returns c = record {
  ok =
      let attributes = heading_attributes (shown_attributes c.args.id.now c.args.classes.now.items c.args.attrs.now.items) in
      let start = heading_start c.args.line_start (level_number c.args.level) in
      on_ok_weaker c.append.result
      (λ e. all_third _ _ _ _ start attributes (codes ">")
      (c.in_ok-append_parts.ensures.ok ∙ ap (λ l. string_bytes c.args.out.now ++ l) (ap (λ l. l ++ c.heading_text.result.now) c.new_line.ensures ∙ ap (λ l. fresh_line c.args.line_start ++ l) c.heading_text.ensures))
      c.in_ok-append_attributes.ensures.ok e
      ∙ ap (λ l. string_bytes c.args.out.now ++ l) (heading_parts c.args.line_start (level_number c.args.level) (attributes ++ codes ">")))
      c.append.ensures.ok;
  err =
      let attributes = heading_attributes (shown_attributes c.args.id.now c.args.classes.now.items c.args.attrs.now.items) in
      let start = heading_start c.args.line_start (level_number c.args.level) in
      on_err_weaker c.append.result
      (λ h. subst (AppendsFront (string_bytes c.args.out.now) (string_bytes c.append.new.out)) (heading_parts c.args.line_start (level_number c.args.level) (attributes ++ codes ">"))
      (front_third _ _ _ _ start attributes (codes ">")
      (c.in_ok-append_parts.ensures.ok ∙ ap (λ l. string_bytes c.args.out.now ++ l) (ap (λ l. l ++ c.heading_text.result.now) c.new_line.ensures ∙ ap (λ l. fresh_line c.args.line_start ++ l) c.heading_text.ensures))
      c.in_ok-append_attributes.ensures.ok h))
      c.append.ensures.err;
}
