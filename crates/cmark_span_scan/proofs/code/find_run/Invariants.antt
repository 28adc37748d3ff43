use Rattle.std.proofs.Common.{◌≡◌, ◌+◌, ◌≤◌, false, length}
use Rattle.cmark_grammar.specs.CodeSpans.{up_to_run}
use Rattle.cmark_span_scan.specs.Backticks.{runs_in}
use Rattle.cmark_scan_bytes.proofs.PartSteps.{Reads}
use Rattle.cmark_span_scan.proofs.code.find_run.Given as goal

abbrev pub invariant-loop-at : goal.invariant-loop-at
invariant-loop-at l = record {
  reads : Reads (up_to_run l.size false l.bytes) (up_to_run l.size false l.rest) l.bytes l.rest;
  visited : l.visited + runs_in false l.rest ≡ l.fn.visited + runs_in false l.bytes;
  more : l.fn.visited ≤ l.visited;
}

abbrev pub decreases-loop-at : goal.decreases-loop-at
decreases-loop-at l = length l.rest
