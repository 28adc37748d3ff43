use Rattle.cmark_inline_model.proofs.TextPlaces.{text-places}
use Rattle.cmark_inline_model.proofs.laws.a_text_stands_in_its_places.Goals as goal

pub returns : goal.returns
returns c = text-places
