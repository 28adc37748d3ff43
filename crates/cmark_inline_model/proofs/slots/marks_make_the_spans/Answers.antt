use Rattle.cmark_inline_model.proofs.SlotLaws.{marks-make}
use Rattle.cmark_inline_model.proofs.slots.marks_make_the_spans.Goals as goal

pub returns : goal.returns
returns c = marks-make
