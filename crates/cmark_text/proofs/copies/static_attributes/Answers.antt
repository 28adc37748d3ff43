use Rattle.std.proofs.Common.{arith}
use Rattle.std.proofs.lemmas.Grind.{common_steps}
use Rattle.cmark_text.proofs.copies.static_attributes.Goals as goal

pub loop-attribute-preserved : goal.loop-attribute-preserved
loop-attribute-preserved c = grind (arith, common_steps)

pub returns-clause-succeeds : goal.returns-clause-succeeds
returns-clause-succeeds c = grind (arith, common_steps)
