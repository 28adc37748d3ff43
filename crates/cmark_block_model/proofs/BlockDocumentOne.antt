-- A text derives one document.
use Rattle.std.proofs.Common.{◌≡◌, ℕ, false, List, ap, ◌∙◌}
use Rattle.cmark_grammar.specs.Answers.{Lookup}
use Rattle.cmark_grammar.specs.Options.{Options}
use Rattle.cmark_grammar.specs.BlockDocument.{BlockDocument}
use Rattle.cmark_grammar.specs.Derivation.{Derives, document_of}
use Rattle.cmark_block_model.specs.DocumentModel.{document}
use Rattle.cmark_block_model.proofs.BlocksOne.{blocks-only}
use Rattle.std.specs.Prelude.{None}

pub document-only : (text : List ℕ) (options : Options) (lookup : Lookup) (d : BlockDocument) → Derives text options lookup d → d ≡ document text options lookup
document-only text options lookup d derived = derived.2 ∙ ap (document_of text options lookup false None) (blocks-only options text derived.0 derived.1)
