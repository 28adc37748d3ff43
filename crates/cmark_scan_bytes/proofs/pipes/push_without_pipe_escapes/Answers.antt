use Rattle.std.proofs.Common.{◌≡◌, take, arith}
use Rattle.cmark_scan_bytes.proofs.PipeEscapes.{push_to_escape}
use Rattle.cmark_scan_bytes.proofs.pipes.push_without_pipe_escapes.Goals as goal

pub loop-backslash-preserved : goal.loop-backslash-preserved
loop-backslash-preserved c =
    let at = c.in-Some.backslash in
    let front : c.range.result.now ≡ take at c.loop-backslash.rest.now = grind (arith, c.range.ensures.value) in
    record {
      text = c.range_from-rest.utf8;
      pushed = push_to_escape at _ _ c.loop-backslash.rest.now _ c.range.result.now _ c.in_ok-push_str.ensures.bytes c.range_from-rest.ensures.value front c.in-Some.ensures c.loop-backslash.invariant.pushed;
    }
