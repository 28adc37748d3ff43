use Rattle.cmark_inline_model.proofs.LeafParts.{leaf-apart}
use Rattle.cmark_inline_model.proofs.laws.no_link_holds_a_link.Goals as goal

pub returns : goal.returns
returns c reader leaf s parts t h = leaf-apart reader leaf s parts t h
