use Rattle.std.proofs.Common.{◌≢◌, ◌<◌, ◌-◌, length, get_or, arith}
use Rattle.cmark_scan_lines.proofs.TableSteps.{last-dropped, last-kept}
use Rattle.cmark_scan_lines.proofs.table.without_last_pipe.Goals as goal
use Rattle.cmark_scan_lines.proofs.table.without_last_pipe.Goals.{else-len-gt0-via-then-len-gt0+else-bytes-len-eq124, else-len-gt0-via-else-len-gt0}

pub returns-then-bytes-len-eq124 : goal.returns-then-bytes-len-eq124
returns-then-bytes-len-eq124 c = last-dropped c.args.bytes.now c.if-len-gt0.true c.if-bytes-len-eq124.true

pub returns-else-len-gt0 : goal.returns-else-len-gt0
returns-else-len-gt0 c = last-kept c.args.bytes.now other
  where
    other : 0 < length c.args.bytes.now → get_or c.args.bytes.now (length c.args.bytes.now - 1) 0 ≢ 124
    other some =
        elim c.else-len-gt0.branch [
          | else-len-gt0-via-then-len-gt0+else-bytes-len-eq124 w ↦ w.if-bytes-len-eq124.false
          | else-len-gt0-via-else-len-gt0 w ↦ absurd (let z = w.if-len-gt0.false in omega arith)
        ]
