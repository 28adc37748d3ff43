use Rattle.std.proofs.Common.{refl}
use Rattle.cmark_stream.proofs.rest.with_tail.Goals as goal

pub returns : goal.returns
returns g c = (refl, refl, c.in_ok-tail.ensures.written)
