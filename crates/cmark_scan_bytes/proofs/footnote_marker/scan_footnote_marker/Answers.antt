use Rattle.std.proofs.Common.{arith}
use Rattle.std.proofs.lemmas.Grind.{common_steps, elements}
use Rattle.cmark_scan_bytes.proofs.footnote_marker.scan_footnote_marker.Goals as goal

pub returns-in_default-3-clause-colon : goal.returns-in_default-3-clause-colon
returns-in_default-3-clause-colon c = grind (arith, common_steps)

pub returns-in-91-clause-colon : goal.returns-in-91-clause-colon
returns-in-91-clause-colon c = grind (arith, elements)

pub returns-in-91-clause-closed : goal.returns-in-91-clause-closed
returns-in-91-clause-closed c = grind (arith, elements)
