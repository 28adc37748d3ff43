use Rattle.cmark_grammar.specs.Questions.{AnyAnswer}
use Rattle.cmark_inline_model.proofs.ReadingLinkLaws.{reading-given}
use Rattle.cmark_inline_model.proofs.TokenOptions.{leaf-items}
use Rattle.cmark_inline_model.proofs.reading_laws.options_that_are_off_read_nothing.Goals as goal

pub returns-clause-items : goal.returns-clause-items
returns-clause-items c reader leaf s parts t h = leaf-items reader leaf AnyAnswer s parts t h

pub returns-clause-events : goal.returns-clause-events
returns-clause-events c text profile exchanges events h = reading-given text profile exchanges events h
