use Rattle.std.proofs.Common.{arith}
use Rattle.cmark_scan_bytes.proofs.TrailingSteps.{drop_end-cut}
use Rattle.cmark_scan_bytes.proofs.bytes.without_trailing.Goals as goal

pub returns-clause-value : goal.returns-clause-value
returns-clause-value g c = grind (arith, drop_end-cut)
