use Rattle.std.proofs.Common.{length}
use Rattle.cmark_grammar.specs.SpanDocuments.{reader_of, segments}
use Rattle.cmark_inline_model.specs.ReadingQuestions.{PutInTurn, IsCloserBelow}
use Rattle.cmark_inline_model.proofs.ReadingBelow.{reading-asked-below}
use Rattle.cmark_inline_model.proofs.ReadingDocuments.{document-of}
use Rattle.cmark_inline_model.proofs.reading_laws.questions_are_put_below_the_limit.Goals as goal

pub returns : goal.returns
returns c text profile document exchanges events derives h =
    document-of text profile document exchanges events derives h
    (λ d. PutInTurn (IsCloserBelow profile.reference_expansion_limit events (reader_of text profile d) (segments d)) 0 exchanges (length text)) (reading-asked-below text profile exchanges events h)
