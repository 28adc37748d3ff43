use Rattle.std.proofs.Common.{◌≡◌, take, arith}
use Rattle.cmark_span_scan.proofs.EndSteps.{line_pushed}
use Rattle.cmark_span_scan.proofs.line_end.with_line_ends.Goals as goal

pub loop-found-preserved : goal.loop-found-preserved
loop-found-preserved c =
    let front : c.range.result.now ≡ take c.in-Some.found.start c.loop-found.rest.now = grind (arith, c.range.ensures.value) in
    record {
      text = c.range_from-rest.utf8;
      pushed = line_pushed c.args.mark.now _ _ _ c.loop-found.rest.now c.range.result.now _ _ c.in-Some.found.start c.in-Some.found.end c.in-Some.ensures c.in_ok-push_str.ensures.bytes front c.in_ok-push_str-2.ensures.bytes
          c.range_from-rest.ensures.value c.loop-found.invariant.pushed;
    }
