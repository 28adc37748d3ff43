use Rattle.cmark_inline_model.proofs.SpanPlaces.{places}
use Rattle.cmark_emphasis.proofs.laws.spans_take_the_places.Goals as goal

pub returns : goal.returns
returns c = places
