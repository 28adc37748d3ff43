use Rattle.cmark_inline_model.proofs.EventCounts.{reading-few}
use Rattle.cmark_inline_model.proofs.reading_laws.events_are_few.Goals as goal

pub returns : goal.returns
returns c = reading-few
