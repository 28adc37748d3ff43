use Rattle.std.proofs.Common.{arith}
use Rattle.std.proofs.lemmas.Grind.{common_steps, elements, moves}
use Rattle.cmark_scan_bytes.proofs.escapes.unescape.Goals as goal

pub returns-clause-value : goal.returns-clause-value
returns-clause-value g c = grind (arith, moves)

pub returns-then-not-is_in_table-clause-value : goal.returns-then-not-is_in_table-clause-value
returns-then-not-is_in_table-clause-value g c = grind (arith, moves)

pub returns-in_err-text-clause-kept : goal.returns-in_err-text-clause-kept
returns-in_err-text-clause-kept g c = grind (arith, common_steps)

pub returns-clause-kept : goal.returns-clause-kept
returns-clause-kept g c = grind (arith, elements)
