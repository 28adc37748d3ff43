-- The document of a text as a function of it: the document that the model's blocks give.
use Rattle.std.specs.Prelude.{ℕ, false, List, None}
use Rattle.cmark_grammar.specs.Answers.{Lookup}
use Rattle.cmark_grammar.specs.BlockDocument.{BlockDocument}
use Rattle.cmark_grammar.specs.Derivation.{document_of}
use Rattle.cmark_grammar.specs.Options.{Options}
use Rattle.cmark_block_model.specs.BlocksModel.{blocks}

-- the model's document
abbrev pub document : List ℕ → Options → Lookup → BlockDocument
document text options lookup = document_of text options lookup false None (blocks options text)
