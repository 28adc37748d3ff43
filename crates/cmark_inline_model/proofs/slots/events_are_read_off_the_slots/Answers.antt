use Rattle.cmark_inline_model.proofs.SlotLaws.{dressed-events}
use Rattle.cmark_inline_model.proofs.slots.events_are_read_off_the_slots.Goals as goal

pub returns : goal.returns
returns c = dressed-events
