use Rattle.cmark_stream.proofs.RestSteps.{shown-grown}
use Rattle.cmark_stream.proofs.laws.cuts_stay.Goals as goal

pub returns : goal.returns
returns c = shown-grown
