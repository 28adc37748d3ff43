use Rattle.std.proofs.Common.{sym, ◌∙◌}
use Rattle.cmark_block_model.proofs.BlockDocumentOne.{document-only}
use Rattle.cmark_block_model.proofs.block_laws.one_block_document.Goals as goal

pub returns : goal.returns
returns c text options lookup first second one other = document-only text options lookup first one ∙ sym (document-only text options lookup second other)
