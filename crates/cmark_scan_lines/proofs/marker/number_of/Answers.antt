use Rattle.std.proofs.Common.{◌<◌, arith}
use Rattle.cmark_scan_lines.proofs.MarkerSteps.{below-power}
use Rattle.cmark_scan_lines.proofs.marker.number_of.Goals as goal

pub overflow_mul-number : goal.overflow_mul-number
overflow_mul-number c =
    let few = c.requires.few in
    let low : c.loop-digit.number < 100000000 = below-power c.loop-digit.number c.loop-digit.digit-index c.loop-digit.invariant.below (omega arith) in
    omega arith
