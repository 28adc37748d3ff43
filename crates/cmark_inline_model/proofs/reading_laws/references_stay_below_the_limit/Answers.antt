use Rattle.cmark_inline_model.proofs.ReadingLinkLaws.{reading-within}
use Rattle.cmark_inline_model.proofs.reading_laws.references_stay_below_the_limit.Goals as goal

pub returns : goal.returns
returns c text profile exchanges events front following own h e = reading-within text profile exchanges events h front following own e
