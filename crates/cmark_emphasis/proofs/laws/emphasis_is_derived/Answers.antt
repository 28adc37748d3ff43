use Rattle.cmark_inline_model.proofs.EmphasisSound.{sound}
use Rattle.cmark_emphasis.proofs.laws.emphasis_is_derived.Goals as goal

pub returns : goal.returns
returns c = sound
