use Rattle.cmark_inline_model.proofs.SlotLaws.{slots-give}
use Rattle.cmark_inline_model.proofs.slots.slots_give_the_events.Goals as goal

pub returns : goal.returns
returns c = slots-give
