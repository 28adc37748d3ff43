use Rattle.std.proofs.Common.{arith}
use Rattle.std.proofs.lemmas.Grind.{elements}
use Rattle.cmark_slot_events.proofs.leaf_events.LeafEvents.take_text.Goals as goal

pub returns-clause-texts : goal.returns-clause-texts
returns-clause-texts c = grind (arith, elements)

pub returns-clause-value : goal.returns-clause-value
returns-clause-value c = grind (arith, elements)
