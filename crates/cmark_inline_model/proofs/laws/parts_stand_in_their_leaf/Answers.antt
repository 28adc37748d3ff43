use Rattle.cmark_inline_model.proofs.LeafParts.{leaf-stands}
use Rattle.cmark_inline_model.proofs.laws.parts_stand_in_their_leaf.Goals as goal

pub returns : goal.returns
returns c reader leaf s parts t size h turn w = leaf-stands reader leaf s parts t h size turn w
