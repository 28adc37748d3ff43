use Rattle.cmark_scan_bytes.proofs.EntitySteps.{zero_is_none, out_of_range}
use Rattle.cmark_scan_bytes.proofs.entity.character.Goals as goal

pub returns-then-code-eq0 : goal.returns-then-code-eq0
returns-then-code-eq0 c = zero_is_none c.args.code c.if-code-eq0.true

pub returns-in-None : goal.returns-in-None
returns-in-None c = out_of_range c.args.code c.in-None.ensures.cases
