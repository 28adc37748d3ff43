use Rattle.cmark_inline_model.proofs.LeafParts.{leaf-few}
use Rattle.cmark_inline_model.proofs.laws.questions_are_few.Goals as goal

pub returns : goal.returns
returns c reader leaf s parts t h = leaf-few reader leaf s parts t h
