use Rattle.cmark_inline_model.proofs.SlotLaws.{spans-tight}
use Rattle.cmark_inline_model.proofs.slots.bytes_of_a_side_are_neighbours.Goals as goal

pub returns : goal.returns
returns c = spans-tight
