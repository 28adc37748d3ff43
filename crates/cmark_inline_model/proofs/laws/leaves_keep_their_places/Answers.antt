use Rattle.cmark_inline_model.proofs.ForwardLaws.{leaf-ranges}
use Rattle.cmark_inline_model.proofs.laws.leaves_keep_their_places.Goals as goal

pub returns : goal.returns
returns c = leaf-ranges
