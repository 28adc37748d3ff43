use Rattle.cmark_grammar.specs.Questions.{AnyAnswer, IsNext}
use Rattle.cmark_inline_model.proofs.SpentLaws.{reading-silent, leaves-silent}
use Rattle.cmark_inline_model.proofs.reading_laws.nothing_is_asked_when_nothing_is_left.Goals as goal

pub returns-clause-leaf : goal.returns-clause-leaf
returns-clause-leaf c reader leaf s parts t e h = let i = reading-silent reader AnyAnswer leaf s parts t e h in i.asked

pub returns-clause-leaves : goal.returns-clause-leaves
returns-clause-leaves c text profile document exchanges first others earlier later between after e h k spent =
    leaves-silent text profile document (IsNext exchanges) first others earlier later between after e h k spent
