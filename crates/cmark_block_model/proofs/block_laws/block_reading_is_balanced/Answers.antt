use Rattle.cmark_block_model.proofs.BalanceLaws.{reading-balanced}
use Rattle.cmark_block_model.proofs.block_laws.block_reading_is_balanced.Goals as goal

pub returns : goal.returns
returns c document = reading-balanced document
