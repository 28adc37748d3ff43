use Rattle.std.proofs.Common.{length}
use Rattle.cmark_inline_model.proofs.ReadingOrders.{reading-placed, reading-within-text, uncut}
use Rattle.cmark_inline_model.proofs.reading_laws.ranges_stand_in_order.Goals as goal

pub returns-clause-within : goal.returns-clause-within
returns-clause-within c = reading-within-text

pub returns-clause-cut : goal.returns-clause-cut
returns-clause-cut c = reading-placed

pub returns-clause-uncut : goal.returns-clause-uncut
returns-clause-uncut c text profile exchanges events none tasks h = uncut profile.options text none 0 events (length text) tasks (reading-placed text profile exchanges events h)
