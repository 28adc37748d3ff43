use Rattle.std.proofs.Common.{length, map}
use Rattle.cmark_flat.specs.Decode.{records_of}
use Rattle.cmark_flat.specs.Records.{shown_record}
use Rattle.cmark_flat.proofs.ReadLoop.{SoFar}
use Rattle.cmark_flat.proofs.read.records_of.Given as goal

abbrev pub invariant-loop-rest : goal.invariant-loop-rest
invariant-loop-rest l = SoFar (map shown_record l.records.items) l.rest (records_of l.bytes)

abbrev pub decreases-loop-rest : goal.decreases-loop-rest
decreases-loop-rest l = length l.rest
