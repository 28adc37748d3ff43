use Rattle.cmark_inline_model.proofs.ReadingLinkLaws.{reading-apart}
use Rattle.cmark_inline_model.proofs.reading_laws.links_stand_apart.Goals as goal

pub returns : goal.returns
returns c text profile exchanges events h = reading-apart text profile exchanges events h
