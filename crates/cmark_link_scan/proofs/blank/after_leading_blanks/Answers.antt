use Rattle.cmark_link_scan.proofs.RestSteps.{dropped, after_blanks, following_is}
use Rattle.cmark_link_scan.proofs.blank.after_leading_blanks.Goals as goal

pub range_from-requires : goal.range_from-requires
range_from-requires c = λ some. after_blanks c.args.text.now c.as_bytes.result.now c.count_blanks.result c.as_bytes.ensures.value c.utf8.text c.count_blanks.ensures.value

pub returns-clause-value : goal.returns-clause-value
returns-clause-value c = following_is c.args.text.now c.as_bytes.result.now c.range_from.result.now c.count_blanks.result c.as_bytes.ensures.value c.count_blanks.ensures.value c.range_from.ensures.value

pub returns-clause-rest : goal.returns-clause-rest
returns-clause-rest c = dropped c.args.text.now c.range_from.result.now c.count_blanks.result (after_blanks c.args.text.now c.as_bytes.result.now c.count_blanks.result c.as_bytes.ensures.value c.utf8.text c.count_blanks.ensures.value).0 c.range_from.ensures.value
