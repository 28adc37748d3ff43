use Rattle.cmark_flat.proofs.LinkLaw.{definitions_are_decoded}
use Rattle.cmark_flat.proofs.laws.flat_definitions_are_decoded.Goals as goal

pub returns : goal.returns
returns c = definitions_are_decoded
