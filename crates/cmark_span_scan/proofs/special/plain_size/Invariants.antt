use Rattle.std.proofs.Common.{◌≡◌, ◌+◌, not, length}
use Rattle.std.specs.List.{prefix_len}
use Rattle.cmark_span_scan.specs.Special.{has_byte}
use Rattle.cmark_span_scan.proofs.special.plain_size.Given as goal

abbrev pub invariant-loop-rest : goal.invariant-loop-rest
invariant-loop-rest l = record {
  size : l.passed + length l.rest ≡ length l.bytes;
  front : prefix_len (λ b. not (has_byte l.table b)) l.bytes ≡ l.passed + prefix_len (λ b. not (has_byte l.table b)) l.rest;
}

abbrev pub decreases-loop-rest : goal.decreases-loop-rest
decreases-loop-rest l = length l.rest
