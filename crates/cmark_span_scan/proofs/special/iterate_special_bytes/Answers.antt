use Rattle.std.proofs.Common.{◌≡◌, ◌+◌, length, arith, of_calls}
use Rattle.std.specs.Prelude.{min}
use Rattle.cmark_span_scan.proofs.IterateSteps.{finishes, breaks, skips}
use Rattle.cmark_span_scan.proofs.special.iterate_special_bytes.Goals as goal

pub returns-then-place-bytes : goal.returns-then-place-bytes
returns-then-place-bytes g c =
    c.loop-callback.invariant.reached _ _ (finishes (goal.F-step g) c.args.table.now c.args.bytes.now c.loop-callback.callback c.loop-callback.at c.next_special-place.result c.next_special-place.ensures.value c.if-place-bytes.true)

pub returns-in-BreakAtWith : goal.returns-in-BreakAtWith
returns-in-BreakAtWith g c =
    c.loop-callback.invariant.reached _ _
    (breaks (goal.F-step g) c.args.table.now c.args.bytes.now c.loop-callback.callback c.loop-callback.at c.next_special-place.result c.next_special-place.ensures.value c.next_special-place.ensures.within c.if-place-bytes.false
    c.callback.new.self c.in-BreakAtWith.end c.in-BreakAtWith.value c.in-BreakAtWith.ensures)

pub loop-callback-preserved : goal.loop-callback-preserved
loop-callback-preserved g c =
    let size : c.min-at.result ≡ min (c.next_special-place.result + 1 + c.in-ContinueAndSkip.skipped) (length c.args.bytes.now) = omega (arith, c.min-at.ensures, c.saturating_add.ensures) in
    record {
      callable = search of_calls;
      within = omega (arith, c.min-at.ensures);
      reached = λ end value rest.
          c.loop-callback.invariant.reached end value
          (skips (goal.F-step g) c.args.table.now c.args.bytes.now c.loop-callback.callback c.loop-callback.at c.next_special-place.result c.next_special-place.ensures.value c.next_special-place.ensures.within
          c.if-place-bytes.false c.callback.new.self c.in-ContinueAndSkip.skipped c.min-at.result end value c.in-ContinueAndSkip.ensures size rest);
    }
