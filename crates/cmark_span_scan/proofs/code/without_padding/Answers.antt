use Rattle.std.proofs.Common.{sym, ◌∙◌, arith}
use Rattle.std.proofs.lemmas.Grind.{elements, pieces}
use Rattle.cmark_span_scan.proofs.PaddingSteps.{after_first_of}
use Rattle.cmark_span_scan.proofs.code.without_padding.Goals as goal

pub range-requires-clause-start_boundary : goal.range-requires-clause-start_boundary
range-requires-clause-start_boundary c = λ some. after_first_of c.as_bytes.result.now c.args.text.now c.as_bytes.ensures.value c.utf8.text (sym c.is_padded.ensures ∙ c.if-is_padded.true)

pub returns-then-is_padded-clause-part : goal.returns-then-is_padded-clause-part
returns-then-is_padded-clause-part c = search (pieces, arith) depth 5 fits 300

pub returns-else-is_padded-clause-part : goal.returns-else-is_padded-clause-part
returns-else-is_padded-clause-part c = grind (arith, elements)
