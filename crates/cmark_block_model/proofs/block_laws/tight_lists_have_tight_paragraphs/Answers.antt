use Rattle.cmark_block_model.proofs.TightLaws.{derived-tight}
use Rattle.cmark_block_model.proofs.block_laws.tight_lists_have_tight_paragraphs.Goals as goal

pub returns : goal.returns
returns c = derived-tight
