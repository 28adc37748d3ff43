use Rattle.std.proofs.Common.{arith}
use Rattle.std.proofs.lemmas.Grind.{common_steps}
use Rattle.cmark_scan_bytes.proofs.tag.after_tag_start.Goals as goal

pub returns-in-47-clause-value : goal.returns-in-47-clause-value
returns-in-47-clause-value g c = grind (arith, common_steps)
