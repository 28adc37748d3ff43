use Rattle.std.proofs.Common.{arith}
use Rattle.std.proofs.lemmas.Grind.{elements}
use Rattle.cmark_slot_events.proofs.leaf_events.LeafEvents.link_ahead.Goals as goal

pub returns-in-BeginLink-Link-default : goal.returns-in-BeginLink-Link-default
returns-in-BeginLink-Link-default c = grind (arith, elements)

pub returns-in_default : goal.returns-in_default
returns-in_default c = grind (arith, elements)

pub returns-in_default-kind : goal.returns-in_default-kind
returns-in_default-kind c = grind (arith, elements)
