use Rattle.cmark_grammar.specs.SpanDocuments.{reader_of}
use Rattle.cmark_inline_model.specs.ReadingLinks.{AreLed}
use Rattle.cmark_inline_model.proofs.ReadingDocuments.{document-of}
use Rattle.cmark_inline_model.proofs.ReadingLinkLaws.{reading-led}
use Rattle.cmark_inline_model.proofs.reading_laws.links_lead_by_definitions_and_answers.Goals as goal

pub returns : goal.returns
returns c text profile document exchanges events derives h =
    document-of text profile document exchanges events derives h (λ d. AreLed (reader_of text profile d) exchanges events) (reading-led text profile exchanges events h)
