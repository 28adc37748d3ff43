use Rattle.cmark_block_model.proofs.ReferenceLaws.{first-stays, table-once}
use Rattle.cmark_block_model.proofs.block_laws.first_definition_stays.Goals as goal

pub returns-clause-first : goal.returns-clause-first
returns-clause-first c = first-stays

pub returns-clause-once : goal.returns-clause-once
returns-clause-once c = table-once
