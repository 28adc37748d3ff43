-- A text that is read from an offset on.
use Rattle.std.specs.Prelude.{◌≡◌, ℕ, List, take}
use Rattle.cmark_grammar.specs.Answers.{Lookup}
use Rattle.cmark_grammar.specs.BlockDocument.{join}
use Rattle.cmark_block_model.specs.DocumentModel.{document}
use Rattle.cmark_grammar.specs.Options.{Options}
use Rattle.cmark_block_model.specs.Tails.{document_after}

-- the document of a text is the document of the bytes before this offset, joined with the document of the lines after it
abbrev pub IsJoinedAt : Options → Lookup → (text : List ℕ) → (from : ℕ) → Type 0
IsJoinedAt options lookup text from = document text options lookup ≡ join (document (take from text) options lookup) (document_after text options lookup from)
