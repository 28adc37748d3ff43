use Rattle.cmark_inline_model.proofs.EmphasisOne.{one}
use Rattle.cmark_emphasis.proofs.laws.one_emphasis.Goals as goal

pub returns : goal.returns
returns c = one
