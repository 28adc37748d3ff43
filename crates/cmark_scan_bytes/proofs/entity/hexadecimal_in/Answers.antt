use Rattle.std.proofs.Common.{refl}
use Rattle.cmark_scan_bytes.proofs.EntitySteps.{hexadecimal_digits}
use Rattle.cmark_scan_bytes.proofs.entity.hexadecimal_in.Goals as goal

pub hexadecimal_value-requires-clause-digits : goal.hexadecimal_value-requires-clause-digits
hexadecimal_value-requires-clause-digits c = hexadecimal_digits c.args.bytes.now _ c.count-count.result c.count-count.ensures.value refl
