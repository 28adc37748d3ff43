use Rattle.std.proofs.Common.{arith}
use Rattle.cmark_span_scan.proofs.Visited.{set-entry}
use Rattle.cmark_span_scan.proofs.dollars.set_head.Goals as goal

pub returns : goal.returns
returns c = set-entry c.args.none c.args.heads.now.items c.loop-heads.heads.items c.args.context c.args.index (omega (arith, c.len.ensures, c.loop-heads-test.false, c.loop-heads.heads.ok.0)) c.loop-heads.invariant.same
