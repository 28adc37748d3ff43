use Rattle.std.proofs.Common.{arith}
use Rattle.std.proofs.lemmas.Grind.{common_steps}
use Rattle.cmark_link_scan.proofs.breaks.line_break.Goals as goal

pub returns-clause-places : goal.returns-clause-places
returns-clause-places c = grind (arith, common_steps)

pub place_of-requires : goal.place_of-requires
place_of-requires c = grind (arith, common_steps)
