use Rattle.std.proofs.Common.{inl, inr, ap, refl, sym, ◌∙◌}
use Rattle.cmark_merge.specs.Merge.{TextAt}
use Rattle.cmark_values.specs.declared.text.CowStr.TheVariants.{Boxed}
use Rattle.cmark_merge.proofs.JoinSteps.{empty-of, full-of}
use Rattle.cmark_merge.proofs.offset.TextMergeWithOffset.merge.Goals as goal

pub returns-then-is_empty-clause-merges : goal.returns-then-is_empty-clause-merges
returns-then-is_empty-clause-merges g c =
    let all = c.in-Ok.ensures.joins in
    let empty = empty-of c.as_str.result.now (sym c.is_empty.ensures ∙ c.if-is_empty.true) in
    inl (record {
      following = c.join.new.self.held;
      run = record { texts = all.run.texts; reads = all.run.reads; no_text = all.run.no_text; ends = all.run.ends };
      gives = inr (ap (λ t. TextAt.text t) (sym all.are) ∙ sym c.as_str.ensures.value ∙ empty, c.take.ensures.value, c.take.ensures.after);
    })

pub returns-else-is_empty-clause-merges : goal.returns-else-is_empty-clause-merges
returns-else-is_empty-clause-merges g c =
    let all = c.in-Ok.ensures.joins in
    inl (record {
      following = c.join.new.self.held;
      run = all.run;
      gives = inl (
        (Boxed c.into_boxed_str.result, c.in-Ok.range),
        refl,
        tt,
        ap (λ l. record { text = l; start = c.in-Ok.range.start; end = c.in-Ok.range.end }) c.into_boxed_str.ensures.bytes ∙ all.are,
        λ is. full-of c.as_str.result.now (sym c.is_empty.ensures ∙ c.if-is_empty.false) (c.as_str.ensures.value ∙ ap (λ t. TextAt.text t) all.are ∙ is),
        refl,
      );
    })
