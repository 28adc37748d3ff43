use Rattle.cmark_block_model.proofs.TableLaws.{derived-rectangular}
use Rattle.cmark_block_model.proofs.block_laws.tables_are_rectangular.Goals as goal

pub returns : goal.returns
returns c = derived-rectangular
