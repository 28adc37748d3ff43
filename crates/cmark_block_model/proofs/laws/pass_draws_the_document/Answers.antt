use Rattle.cmark_block_model.proofs.Theorem.{pass-draws}
use Rattle.cmark_block_model.proofs.laws.pass_draws_the_document.Goals as goal

pub returns-clause-drawn : goal.returns-clause-drawn
returns-clause-drawn c text options lookup = (pass-draws text options lookup).0

pub returns-clause-closed : goal.returns-clause-closed
returns-clause-closed c text options lookup = (pass-draws text options lookup).1

pub returns-clause-referred : goal.returns-clause-referred
returns-clause-referred c text options lookup = (pass-draws text options lookup).2

pub returns-clause-labelled : goal.returns-clause-labelled
returns-clause-labelled c text options lookup = (pass-draws text options lookup).3
