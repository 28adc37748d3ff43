use Rattle.cmark_inline_model.proofs.RowPasses.{reached-first, reached-item, reached-opening, reached-closing}
use Rattle.cmark_inline_model.proofs.pass_laws.slots_follow_the_pass.Goals as goal

pub returns-clause-first : goal.returns-clause-first
returns-clause-first c = reached-first

pub returns-clause-item : goal.returns-clause-item
returns-clause-item c = reached-item

pub returns-clause-opening : goal.returns-clause-opening
returns-clause-opening c = reached-opening

pub returns-clause-closing : goal.returns-clause-closing
returns-clause-closing c = reached-closing
