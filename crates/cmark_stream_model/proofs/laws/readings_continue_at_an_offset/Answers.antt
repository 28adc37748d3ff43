use Rattle.cmark_stream_model.proofs.TailFacts.{readings-continue}
use Rattle.cmark_stream_model.proofs.laws.readings_continue_at_an_offset.Goals as goal

pub returns : goal.returns
returns c = readings-continue
