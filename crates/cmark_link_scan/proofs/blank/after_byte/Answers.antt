use Rattle.std.proofs.Common.{arith}
use Rattle.cmark_link_scan.proofs.RestSteps.{after_first}
use Rattle.cmark_link_scan.proofs.blank.after_byte.Goals as goal

pub range_from-requires : goal.range_from-requires
range_from-requires c = λ some. after_first c.args.text.now c.as_bytes.result.now c.as_bytes.ensures.value c.utf8.text (omega arith) (omega arith)
