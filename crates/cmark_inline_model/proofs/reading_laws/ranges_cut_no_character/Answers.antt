use Rattle.cmark_inline_model.proofs.SpanEdges.{reading-cut}
use Rattle.cmark_inline_model.proofs.reading_laws.ranges_cut_no_character.Goals as goal

pub returns : goal.returns
returns c = reading-cut
