use Rattle.cmark_inline_model.proofs.RowPasses.{reached-formed, reached-link}
use Rattle.cmark_inline_model.proofs.pass_laws.what_is_formed_takes_the_place_of_its_slots.Goals as goal

pub returns-clause-formed : goal.returns-clause-formed
returns-clause-formed c = reached-formed

pub returns-clause-link : goal.returns-clause-link
returns-clause-link c = reached-link
