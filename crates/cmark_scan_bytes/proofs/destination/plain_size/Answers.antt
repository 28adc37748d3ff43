use Rattle.std.proofs.Common.{take_all, arith}
use Rattle.std.proofs.lemmas.List.Sums.{fails_before_first}
use Rattle.cmark_scan_bytes.proofs.BareSteps.{plain_bytes}
use Rattle.cmark_scan_bytes.proofs.destination.plain_size.Goals as goal

pub returns-clause-value : goal.returns-clause-value
returns-clause-value c = grind (arith, take_all, plain_bytes, fails_before_first)
