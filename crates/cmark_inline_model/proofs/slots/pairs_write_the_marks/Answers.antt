use Rattle.cmark_inline_model.proofs.SlotLaws.{pairs-write}
use Rattle.cmark_inline_model.proofs.slots.pairs_write_the_marks.Goals as goal

pub returns : goal.returns
returns c = pairs-write
