use Rattle.std.proofs.Common.{length, ap, arith}
use Rattle.cmark_link_scan.proofs.RestSteps.{after_first, after_opening}
use Rattle.cmark_link_scan.proofs.part.title_in.Goals as goal

pub range_from-requires : goal.range_from-requires
range_from-requires c = λ some. after_first c.args.text.now c.as_bytes.result.now c.as_bytes.ensures.value c.utf8.text (omega arith) (omega arith)

pub range_from-requires-in-39 : goal.range_from-requires-in-39
range_from-requires-in-39 c = λ some. after_first c.args.text.now c.as_bytes.result.now c.as_bytes.ensures.value c.utf8.text (omega arith) (omega arith)

pub range_from-requires-in-40 : goal.range_from-requires-in-40
range_from-requires-in-40 c = λ some. after_first c.args.text.now c.as_bytes.result.now c.as_bytes.ensures.value c.utf8.text (omega arith) (omega arith)

pub returns-in-34-clause-rest : goal.returns-in-34-clause-rest
returns-in-34-clause-rest c = after_opening c.closed_part.result c.args.text.now c.range_from.result.now (let n = ap length c.as_bytes.ensures.value in omega arith) c.range_from.ensures.value c.closed_part.ensures.rest

pub returns-in-39-clause-rest : goal.returns-in-39-clause-rest
returns-in-39-clause-rest c = after_opening c.closed_part-in-39.result c.args.text.now c.range_from-in-39.result.now (let n = ap length c.as_bytes.ensures.value in omega arith) c.range_from-in-39.ensures.value c.closed_part-in-39.ensures.rest

pub returns-in-40-clause-rest : goal.returns-in-40-clause-rest
returns-in-40-clause-rest c = after_opening c.closed_part-in-40.result c.args.text.now c.range_from-in-40.result.now (let n = ap length c.as_bytes.ensures.value in omega arith) c.range_from-in-40.ensures.value c.closed_part-in-40.ensures.rest
