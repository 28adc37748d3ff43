use Rattle.std.proofs.Common.{◌≡◌, take, arith}
use Rattle.cmark_scan_bytes.proofs.PipeSteps.{push_to_backslashes}
use Rattle.cmark_scan_bytes.proofs.pipes.push_with_literal_pipes.Goals as goal

pub loop-found-preserved : goal.loop-found-preserved
loop-found-preserved c =
    let found = c.in-Some.found in
    let front : c.range.result.now ≡ take found.start c.loop-found.rest.now = grind (arith, c.range.ensures.value) in
    record {
      text = c.range_from-rest.utf8;
      pushed = push_to_backslashes found.start found.end _ _ c.loop-found.rest.now _ c.range.result.now _ c.in_ok-push_str.ensures.bytes c.range_from-rest.ensures.value front c.in-Some.ensures c.loop-found.invariant.pushed;
    }
