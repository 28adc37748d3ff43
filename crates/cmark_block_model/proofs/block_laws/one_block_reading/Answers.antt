use Rattle.std.proofs.Common.{sym, ap, ◌∙◌}
use Rattle.cmark_grammar.specs.BlockReading.{block_reading}
use Rattle.cmark_block_model.proofs.BlockDocumentOne.{document-only}
use Rattle.cmark_block_model.proofs.block_laws.one_block_reading.Goals as goal

pub returns : goal.returns
returns c text options lookup first second one other =
    ap block_reading (document-only text options lookup first one ∙ sym (document-only text options lookup second other))
