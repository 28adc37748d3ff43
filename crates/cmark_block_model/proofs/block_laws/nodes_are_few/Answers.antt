use Rattle.cmark_block_model.proofs.CountLaws.{derived-count, derived-tables}
use Rattle.cmark_block_model.proofs.block_laws.nodes_are_few.Goals as goal

pub returns-clause-nodes : goal.returns-clause-nodes
returns-clause-nodes c = derived-count

pub returns-clause-tables : goal.returns-clause-tables
returns-clause-tables c = derived-tables
