use Rattle.std.proofs.Common.{◌≡◌, ◌++◌, ◌-◌, ◌∷◌, [], length, sym, ap, ◌∙◌, arith, append_assoc}
use Rattle.cmark_grammar.specs.InlineHtml.{without_prefixes}
use Rattle.cmark_scan.proofs.OwnedSteps.{one_more}
use Rattle.cmark_scan.proofs.owned.push_without_prefixes.Goals as goal

pub loop-first-preserved : goal.loop-first-preserved
loop-first-preserved g c = λ prefix answers.
    let cut : c.loop-first.rest.now ≡ c.in-Some.first.now ∷ c.in-Some.others.now = c.in-Some.ensures.cases.0 in
    ap (λ l. l ++ without_prefixes prefix (length c.after_prefix-rest.result.now - c.args.following) 0 c.after_prefix-rest.result.now) c.in_ok-push.ensures.items
    ∙ append_assoc c.loop-first.buffer.items (c.in-Some.first.now ∷ []) _
    ∙ ap (λ l. c.loop-first.buffer.items ++ l) (one_more prefix c.in-Some.first.now c.in-Some.others.now c.after_prefix-rest.result.now c.args.following (let n = ap length cut in let lt = c.if-rest-following.false in omega (arith, n, lt)) (c.after_prefix-rest.ensures.value prefix answers))
    ∙ ap (λ cs. c.loop-first.buffer.items ++ without_prefixes prefix (length cs - c.args.following) 0 cs) (sym cut)
    ∙ c.loop-first.invariant prefix answers
