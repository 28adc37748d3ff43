use Rattle.cmark_stream_model.proofs.SettledCuts.{stays-joined}
use Rattle.cmark_stream_model.proofs.laws.documents_stay_joined_at_settled_cuts.Goals as goal

pub returns : goal.returns
returns c = stays-joined
