use Rattle.std.proofs.Common.{◌≡◌, take, arith}
use Rattle.std.proofs.lemmas.Grind.{common_steps}
use Rattle.cmark_link_scan.proofs.TitleSteps.{line_pushed, last_pushed}
use Rattle.cmark_link_scan.proofs.title.title_lines.Goals as goal

pub loop-at-preserved : goal.loop-at-preserved
loop-at-preserved c =
    let front : c.range.result.now ≡ take c.in-Some.at c.loop-at.rest.now = grind (arith, c.range.ensures.value) in
    record {
      text = c.after_separator-rest.utf8;
      pushed = line_pushed c.in-Some.at _ _ _ c.as_bytes.result.now c.loop-at.rest.now c.range.result.now c.range_from.result.now _ _ c.as_bytes.ensures.value c.in-Some.ensures
          c.in_ok-push_str.ensures.bytes front c.range_from.ensures.value c.in_ok-push_str-2.ensures.bytes c.after_separator-rest.ensures.value c.loop-at.invariant.pushed;
    }

pub returns : goal.returns
returns c = last_pushed _ _ c.as_bytes.result.now c.loop-at.rest.now _ c.as_bytes.ensures.value c.in_default.ensures c.in_ok-push_str-3.ensures.bytes c.loop-at.invariant.pushed

pub loop-at-smaller : goal.loop-at-smaller
loop-at-smaller c = grind (arith, common_steps)

pub returns-in_err-push_str-3 : goal.returns-in_err-push_str-3
returns-in_err-push_str-3 c = grind (arith, common_steps)
