use Rattle.std.proofs.Common.{arith}
use Rattle.std.proofs.lemmas.Grind.{elements}
use Rattle.cmark_scan_bytes.proofs.entity.numeric_in.Goals as goal

pub returns-in-120-clause-value : goal.returns-in-120-clause-value
returns-in-120-clause-value c = grind (arith, elements)
