use Rattle.std.proofs.Common.{sym, ap, ◌∙◌, arith}
use Rattle.cmark_grammar.specs.Tags.{after_quotation_mark}
use Rattle.cmark_scan_bytes.proofs.TagSteps.{quote_to_stop, quote_next, quote_here}
use Rattle.cmark_scan_bytes.proofs.tag.after_quotation_mark.Goals as goal

pub lines-preserved : goal.lines-preserved
lines-preserved g c =
    let stop = c.at_first3-stop.ensures.value in
    let next = c.in-Some.ensures.value in
    record {
      same = λ prefix answers. ap (after_quotation_mark prefix c.args.quote 0) (c.without_prefix-line.ensures.value prefix answers)
          ∙ sym (quote_next prefix c.args.quote c.at_first3-stop.result.now c.in-Some.next.now c.requires.quote (sym next))
          ∙ ap (after_quotation_mark prefix c.args.quote 0) stop ∙ sym (quote_to_stop prefix c.args.quote c.lines.line.now) ∙ c.lines.invariant.same prefix answers;
      within = let a = c.without_prefix-line.ensures.within in let b = c.in-Some.ensures.within in let d = c.at_first3-stop.ensures.within in omega (arith, a, b, d);
    }

pub returns-in-None-clause-value : goal.returns-in-None-clause-value
returns-in-None-clause-value g c = grind (arith, quote_here)
