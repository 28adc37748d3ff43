use Rattle.std.proofs.Common.{◌≡◌, ◌++◌, string_bytes, take, sym, ap, ◌∙◌, arith}
use Rattle.cmark_scan_bytes.proofs.Unescaping.{push_to_pipe, no_pipe}
use Rattle.cmark_scan_bytes.proofs.escapes.push_with_escaped_pipes.Goals as goal

pub loop-at-preserved : goal.loop-at-preserved
loop-at-preserved c =
    let front : c.range.result.now ≡ take c.in-Some.at c.loop-at.rest.now = grind (arith, c.range.ensures.value) in
    record {
      text = c.range_from-rest.utf8;
      pushed = push_to_pipe c.in-Some.at _ _ c.loop-at.rest.now _ c.range.result.now _ c.in_ok-push_str.ensures.bytes c.range_from-rest.ensures.value front c.in-Some.ensures c.loop-at.invariant.pushed;
    }

pub returns : goal.returns
returns c = c.in_ok-push_str-2.ensures.bytes ∙ ap (λ l. string_bytes c.loop-at.out ++ l) (sym (no_pipe c.loop-at.rest.now c.in_default.ensures)) ∙ c.loop-at.invariant.pushed
