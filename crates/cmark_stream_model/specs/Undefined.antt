-- Readings of texts that define nothing.
use Rattle.std.specs.Prelude.{◌≡◌, ℕ, Bool, false, List, [], ◌++◌, Option, None}
use Rattle.cmark_grammar.specs.BlockDocument.{BlockDocument, Reference}
use Rattle.cmark_block_model.specs.DocumentModel.{document}
use Rattle.cmark_grammar.specs.Event.{Ranged}
use Rattle.cmark_grammar.specs.Questions.{IsNext}
use Rattle.cmark_grammar.specs.SpanDocuments.{Profile, ReadsAll, at_start, segments}
use Rattle.cmark_stream_model.specs.Continued.{definitions_of, footnotes_of, reader_with}

-- no label has a definition, and none has a footnote
pub record DefinesNothing (definition : List ℕ → Option Reference) (has_footnote : List ℕ → Bool) : Type 0 where
  pub definitions : (folded : List ℕ) → definition folded ≡ None
  pub footnotes : (folded : List ℕ) → has_footnote folded ≡ false

-- a document has neither link reference definitions nor footnotes
abbrev pub HasNoDefinitions : BlockDocument → Type 0
HasNoDefinitions document = DefinesNothing (definitions_of document) (footnotes_of document)

-- whatever follows these bytes, they are read as these events, and nothing of the reference expansion limit is taken, if nothing is defined
abbrev pub IsReadAlone : Profile → (front : List ℕ) → List Ranged → Type 0
IsReadAlone profile front events =
    (more : List ℕ) (definition : List ℕ → Option Reference) (has_footnote : List ℕ → Bool) → DefinesNothing definition has_footnote
    → ReadsAll (reader_with profile (front ++ more) definition has_footnote) (IsNext []) (segments (document front profile.options profile.lookup)) (at_start profile) events (at_start profile)
