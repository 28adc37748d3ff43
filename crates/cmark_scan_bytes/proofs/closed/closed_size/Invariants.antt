use Rattle.std.proofs.Common.{false, length}
use Rattle.cmark_grammar.specs.LinkDefinitions.{up_to}
use Rattle.cmark_scan_bytes.proofs.PartSteps.{Reads}
use Rattle.cmark_scan_bytes.proofs.closed.closed_size.Given as goal

abbrev pub invariant-loop-first : goal.invariant-loop-first
invariant-loop-first l = Reads (up_to false l.closer l.refused l.over_lines l.bytes) (up_to l.escaped l.closer l.refused l.over_lines l.rest) l.bytes l.rest

abbrev pub decreases-loop-first : goal.decreases-loop-first
decreases-loop-first l = length l.rest
