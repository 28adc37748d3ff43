use Rattle.cmark_inline_model.proofs.PlannedReadings.{left-planned}
use Rattle.cmark_inline_model.proofs.laws.what_is_left_can_be_read.Goals as goal

pub returns : goal.returns
returns c = left-planned
