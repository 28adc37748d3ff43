use Rattle.cmark_inline_model.proofs.LikeSlots.{like-quoted, like-marked}
use Rattle.cmark_inline_model.proofs.slots.like_slots_stay_like.Goals as goal

pub returns-clause-quotes : goal.returns-clause-quotes
returns-clause-quotes c = like-quoted

pub returns-clause-marks : goal.returns-clause-marks
returns-clause-marks c = like-marked
