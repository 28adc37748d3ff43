use Rattle.cmark_inline_model.proofs.SilentReadings.{reading-silent}
use Rattle.cmark_inline_model.proofs.laws.no_answers_are_no_callback.Goals as goal

pub returns : goal.returns
returns c = reading-silent
