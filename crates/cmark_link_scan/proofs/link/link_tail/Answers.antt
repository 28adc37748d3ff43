use Rattle.std.proofs.Common.{arith}
use Rattle.std.proofs.lemmas.Grind.{common_steps}
use Rattle.cmark_link_scan.proofs.link.link_tail.Goals as goal

pub place_of-requires : goal.place_of-requires
place_of-requires c = grind (arith, common_steps)

pub returns-clause-further : goal.returns-clause-further
returns-clause-further c = grind (arith, common_steps)
