use Rattle.cmark_block_model.proofs.Drawings.{drawn-read, drawn-order, drawn-edges}
use Rattle.cmark_block_model.proofs.LeafDrawings.{drawn-segments}
use Rattle.cmark_block_model.proofs.laws.drawing_is_read_as_the_document.Goals as goal

pub returns-clause-read : goal.returns-clause-read
returns-clause-read c = drawn-read

pub returns-clause-leaves : goal.returns-clause-leaves
returns-clause-leaves c = drawn-segments

pub returns-clause-in_order : goal.returns-clause-in_order
returns-clause-in_order c = drawn-order

pub returns-clause-uncut : goal.returns-clause-uncut
returns-clause-uncut c = drawn-edges
