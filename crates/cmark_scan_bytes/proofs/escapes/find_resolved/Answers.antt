use Rattle.std.proofs.Common.{List, None, subst, arith}
use Rattle.std.proofs.lemmas.Grind.{common_steps}
use Rattle.memchr.specs.Find.{IsFirstByte, is_byte2}
use Rattle.cmark_scan_bytes.specs.Shown.{shown_entity}
use Rattle.cmark_scan_bytes.proofs.Unescaping.{after_mark, found_in, past_mark, passed_all}
use Rattle.cmark_scan_bytes.proofs.escapes.find_resolved.Goals as goal

pub returns-in-Some-resolved_before : goal.returns-in-Some-resolved_before
returns-in-Some-resolved_before g c =
    found_in _ c.args.text.now c.loop-at.rest.now c.as_bytes.result.now c.range_from.result.now c.in-Some.at c.as_bytes.ensures.value c.in-Some.ensures c.range_from.ensures.value c.loop-at.invariant.passed
    (shown_entity c.in-Some-resolved_before.part) c.range_from.utf8 c.in-Some-resolved_before.ensures.value c.in-Some-resolved_before.ensures.within

pub range_from-rest-requires : goal.range_from-rest-requires
range_from-rest-requires g c = λ some. after_mark c.as_bytes.result.now c.loop-at.rest.now c.in-Some.at c.as_bytes.ensures.value c.loop-at.invariant.text c.in-Some.ensures

pub loop-at-preserved : goal.loop-at-preserved
loop-at-preserved g c = record {
  text = c.range_from-rest.utf8;
  passed = past_mark _ c.args.text.now c.loop-at.rest.now c.as_bytes.result.now c.range_from.result.now c.in-Some.at c.as_bytes.ensures.value c.in-Some.ensures c.range_from.ensures.value c.loop-at.invariant.passed
      c.range_from-rest.result.now c.in_default-resolved_before.ensures.value c.range_from-rest.ensures.value;
}

pub returns : goal.returns
returns g c = passed_all _ c.args.text.now c.loop-at.rest.now (subst (λ (l : List _). IsFirstByte (is_byte2 38 92) l None) c.as_bytes.ensures.value c.in_default.ensures) c.loop-at.invariant.passed

pub overflow_sub-start : goal.overflow_sub-start
overflow_sub-start g c = grind (arith, common_steps)
