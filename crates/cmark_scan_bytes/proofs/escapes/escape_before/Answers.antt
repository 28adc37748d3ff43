use Rattle.std.proofs.Common.{arith}
use Rattle.cmark_scan_bytes.proofs.Unescaping.{after_escape}
use Rattle.cmark_scan_bytes.proofs.escapes.escape_before.Goals as goal

pub range-requires-clause-end_boundary : goal.range-requires-clause-end_boundary
range-requires-clause-end_boundary c = after_escape c.args.text.now c.as_bytes.result.now c.as_bytes.ensures.value c.utf8.text c.in-len2-up.len_at_least c.if-is_ascii_punctuation.ensures.cases

pub returns-in-len2-up-clause-within : goal.returns-in-len2-up-clause-within
returns-in-len2-up-clause-within c = (omega arith, after_escape c.args.text.now c.as_bytes.result.now c.as_bytes.ensures.value c.utf8.text c.in-len2-up.len_at_least c.if-is_ascii_punctuation.ensures.cases)
