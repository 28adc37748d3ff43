use Rattle.cmark_grammar.specs.Questions.{IsNext}
use Rattle.cmark_grammar.specs.SpanDocuments.{reader_of, at_start}
use Rattle.cmark_inline_model.proofs.ReadingBalanced.{matched-balanced, document-matched}
use Rattle.cmark_inline_model.proofs.laws.events_are_balanced.Goals as goal

pub returns-clause-matched : goal.returns-clause-matched
returns-clause-matched c text profile exchanges events h = document-matched (reader_of text profile h.document) (IsNext exchanges) h.document (at_start profile) h.after events h.reads

pub returns-clause-balanced : goal.returns-clause-balanced
returns-clause-balanced c text profile exchanges events h = matched-balanced events (returns-clause-matched c text profile exchanges events h)
