use Rattle.std.proofs.Common.{ap, arith, length}
use Rattle.cmark_stream.proofs.stream.Stream.is_due.Goals as goal

pub returns : goal.returns
returns g c =
    let size = ap length c.as_str.ensures.value in
    (λ h. grind (arith, size, h), λ h. grind (arith, size, h))
