use Rattle.cmark_stream_model.proofs.SettledCuts.{settled-stays-at}
use Rattle.cmark_stream_model.proofs.laws.settled_cuts_stay.Goals as goal

pub returns : goal.returns
returns c = settled-stays-at
