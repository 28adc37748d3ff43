use Rattle.std.proofs.Common.{arith}
use Rattle.std.proofs.lemmas.Grind.{common_steps}
use Rattle.cmark_scan_bytes.proofs.tag.after_value.Goals as goal

pub returns-in_default-clause-within : goal.returns-in_default-clause-within
returns-in_default-clause-within g c = grind (arith, common_steps)

pub returns-in-39-clause-value : goal.returns-in-39-clause-value
returns-in-39-clause-value g c = grind (arith, common_steps)
