use Rattle.std.proofs.Common.{◌≤◌, false, length}
use Rattle.cmark_grammar.specs.LinkDefinitions.{bare_in}
use Rattle.cmark_scan_bytes.proofs.PartSteps.{Reads}
use Rattle.cmark_scan_bytes.proofs.destination.bare_size.Given as goal

abbrev pub invariant-loop-first : goal.invariant-loop-first
invariant-loop-first l = record {
  reads : Reads (bare_in false 0 l.bytes) (bare_in l.escaped l.depth l.rest) l.bytes l.rest;
  shallow : l.depth ≤ 32;
}

abbrev pub decreases-loop-first : goal.decreases-loop-first
decreases-loop-first l = length l.rest
