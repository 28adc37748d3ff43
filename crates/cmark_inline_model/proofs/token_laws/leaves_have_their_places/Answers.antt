use Rattle.cmark_inline_model.proofs.LeafEndings.{derived-placed}
use Rattle.cmark_inline_model.proofs.token_laws.leaves_have_their_places.Goals as goal

pub returns : goal.returns
returns c = derived-placed
