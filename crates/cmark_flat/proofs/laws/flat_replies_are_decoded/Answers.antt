use Rattle.cmark_flat.proofs.LinkLaw.{replies_are_decoded}
use Rattle.cmark_flat.proofs.laws.flat_replies_are_decoded.Goals as goal

pub returns : goal.returns
returns c = replies_are_decoded
