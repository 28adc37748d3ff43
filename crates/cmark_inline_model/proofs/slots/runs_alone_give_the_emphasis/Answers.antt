use Rattle.cmark_inline_model.proofs.SpanPlacing.{by-places, by-runs}
use Rattle.cmark_inline_model.proofs.slots.runs_alone_give_the_emphasis.Goals as goal

pub returns-clause-sound : goal.returns-clause-sound
returns-clause-sound c = by-places

pub returns-clause-complete : goal.returns-clause-complete
returns-clause-complete c = by-runs
