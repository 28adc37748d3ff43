use Rattle.std.proofs.Common.{arith}
use Rattle.std.proofs.lemmas.Grind.{moves}
use Rattle.cmark_link_definitions.proofs.reference.owned_text.Goals as goal

pub returns : goal.returns
returns g c = grind (arith, moves)
