use Rattle.std.proofs.Common.{arith}
use Rattle.cmark_span_scan.proofs.Visited.{set-entry}
use Rattle.cmark_span_scan.proofs.backtick_runs.add_run.Goals as goal

pub returns-clause-entries : goal.returns-clause-entries
returns-clause-entries c = set-entry 0 c.args.last.now.items c.loop-last.last.items c.args.size c.args.start (omega (arith, c.len.ensures, c.loop-last-test.false, c.loop-last.last.ok.0)) c.loop-last.invariant.same
