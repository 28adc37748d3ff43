use Rattle.cmark_flat.proofs.FlatLaw.{flat_is_decoded}
use Rattle.cmark_flat.proofs.laws.flat_events_are_decoded.Goals as goal

pub returns : goal.returns
returns c = flat_is_decoded
