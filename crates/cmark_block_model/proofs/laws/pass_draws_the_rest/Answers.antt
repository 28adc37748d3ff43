use Rattle.cmark_block_model.proofs.Theorem.{rest-draws, pass-whole, document-whole}
use Rattle.cmark_block_model.proofs.laws.pass_draws_the_rest.Goals as goal

pub returns-clause-drawn : goal.returns-clause-drawn
returns-clause-drawn c text options lookup from earlier labels = (rest-draws text options lookup from earlier labels).0

pub returns-clause-closed : goal.returns-clause-closed
returns-clause-closed c text options lookup from earlier labels = (rest-draws text options lookup from earlier labels).1

pub returns-clause-referred : goal.returns-clause-referred
returns-clause-referred c text options lookup from earlier labels = (rest-draws text options lookup from earlier labels).2

pub returns-clause-labelled : goal.returns-clause-labelled
returns-clause-labelled c text options lookup from earlier labels = (rest-draws text options lookup from earlier labels).3

pub returns-clause-whole : goal.returns-clause-whole
returns-clause-whole c = pass-whole

pub returns-clause-document : goal.returns-clause-document
returns-clause-document c = document-whole
