use Rattle.std.proofs.Common.{refl}
use Rattle.cmark_scan_bytes.proofs.EntitySteps.{decimal_digits}
use Rattle.cmark_scan_bytes.proofs.entity.decimal_in.Goals as goal

pub decimal_value-requires-clause-digits : goal.decimal_value-requires-clause-digits
decimal_value-requires-clause-digits c = decimal_digits c.args.bytes.now _ c.count-count.result c.count-count.ensures.value refl
