use Rattle.std.proofs.Common.{length}
use Rattle.cmark_grammar.specs.SpanDocuments.{reader_of, segments}
use Rattle.cmark_inline_model.specs.LinkRules.{IsQuestion}
use Rattle.cmark_inline_model.specs.ReadingQuestions.{AllQuestions, PutInTurn, IsCloser}
use Rattle.cmark_inline_model.proofs.ReadingDocuments.{document-of}
use Rattle.cmark_inline_model.proofs.ReadingQuestionLaws.{reading-turn, reading-asked, reading-silent-at-none}
use Rattle.cmark_inline_model.proofs.reading_laws.questions_are_put_in_turn.Goals as goal

pub returns-clause-turn : goal.returns-clause-turn
returns-clause-turn c text profile document exchanges events derives h =
    document-of text profile document exchanges events derives h (λ d. PutInTurn (IsCloser (reader_of text profile d) (segments d)) 0 exchanges (length text)) (reading-turn text profile exchanges events h)

pub returns-clause-unknown : goal.returns-clause-unknown
returns-clause-unknown c text profile document exchanges events derives h =
    document-of text profile document exchanges events derives h (λ d. AllQuestions (IsQuestion (reader_of text profile d)) exchanges) (reading-asked text profile exchanges events h)

pub returns-clause-limit : goal.returns-clause-limit
returns-clause-limit c text profile exchanges events e h = reading-silent-at-none text profile exchanges events h e
