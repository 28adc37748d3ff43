use Rattle.std.proofs.Common.{arith, rules}
use Rattle.cmark_scan_bytes.proofs.EntitySteps.{room, room_le}
use Rattle.cmark_scan_bytes.proofs.entity.hexadecimal_value.Goals as goal

pub overflow_mul-value : goal.overflow_mul-value
overflow_mul-value c = grind (arith, room, room_le)

pub overflow_add-value : goal.overflow_add-value
overflow_add-value c = search (rules, room, room_le)
