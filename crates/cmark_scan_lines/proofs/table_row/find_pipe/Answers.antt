use Rattle.std.proofs.Common.{arith}
use Rattle.cmark_scan_bytes.proofs.Lists.{rest_of}
use Rattle.cmark_scan_lines.proofs.TableRowSteps.{passed-none, pipe-found, pipe-passed, pipe-within, none-ahead, plain-first, plain-following, escaped-there}
use Rattle.cmark_scan_lines.proofs.table_row.find_pipe.Goals.{then-ahead-eq0-via-then-ahead-eq0, then-ahead-eq0-via-else-ahead-eq0+then-bytes-at-ne92}
use Rattle.cmark_scan_lines.proofs.table_row.find_pipe.Goals as goal

pub loop-ahead-init : goal.loop-ahead-init
loop-ahead-init c = (passed-none c.args.bytes.now, omega arith)

pub returns-then-ahead-eq0-clause-value : goal.returns-then-ahead-eq0-clause-value
returns-then-ahead-eq0-clause-value c =
    let bytes = c.args.bytes.now in
    let from = c.loop-ahead.from in
    let ahead = c.in-Some.ahead in
    pipe-found bytes from c.loop-ahead.invariant.0 ahead _ (rest_of bytes from) c.in-Some.ensures c.loop-ahead.invariant.1
    (elim c.then-ahead-eq0.branch [
      | then-ahead-eq0-via-then-ahead-eq0 w ↦ plain-first bytes from ahead w.if-ahead-eq0.true
      | then-ahead-eq0-via-else-ahead-eq0+then-bytes-at-ne92 w ↦ plain-following bytes from ahead w.if-bytes-at-ne92.true
    ])

pub loop-ahead-preserved : goal.loop-ahead-preserved
loop-ahead-preserved c =
    let bytes = c.args.bytes.now in
    let from = c.loop-ahead.from in
    let ahead = c.in-Some.ahead in
    let within = pipe-within bytes from c.loop-ahead.invariant.0 ahead _ (rest_of bytes from) c.in-Some.ensures c.loop-ahead.invariant.1 in (
      pipe-passed bytes from c.loop-ahead.invariant.0 ahead _ (rest_of bytes from) c.in-Some.ensures c.loop-ahead.invariant.1
          (escaped-there bytes from ahead c.if-ahead-eq0.false c.if-bytes-at-ne92.false) _ (omega arith),
      omega (arith, within),
    )

pub returns-clause-value : goal.returns-clause-value
returns-clause-value c =
    none-ahead c.args.bytes.now c.loop-ahead.from c.loop-ahead.invariant.0 _ (rest_of c.args.bytes.now c.loop-ahead.from) c.in_default.ensures c.loop-ahead.invariant.1
