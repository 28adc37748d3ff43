use Rattle.cmark_inline_model.proofs.LeafCuts.{leaf-places}
use Rattle.cmark_inline_model.proofs.token_laws.places_part_the_text.Goals as goal

pub returns : goal.returns
returns c = leaf-places
