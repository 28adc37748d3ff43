use Rattle.cmark_inline_model.proofs.SlotCells.{laid-out}
use Rattle.cmark_inline_model.proofs.slots.siblings_have_slots.Goals as goal

pub returns : goal.returns
returns c = laid-out
