use Rattle.cmark_block_model.proofs.Drawings.{derived-few}
use Rattle.cmark_block_model.proofs.LeafDrawings.{segments-few}
use Rattle.cmark_block_model.proofs.laws.events_are_few.Goals as goal

pub returns-clause-events : goal.returns-clause-events
returns-clause-events c = derived-few

pub returns-clause-leaves : goal.returns-clause-leaves
returns-clause-leaves c = segments-few
