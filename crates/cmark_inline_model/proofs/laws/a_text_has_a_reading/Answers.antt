use Rattle.cmark_inline_model.proofs.TextLaws.{text-planned}
use Rattle.cmark_inline_model.proofs.laws.a_text_has_a_reading.Goals as goal

pub returns : goal.returns
returns c = text-planned
