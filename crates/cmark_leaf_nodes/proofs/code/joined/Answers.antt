use Rattle.cmark_leaf_nodes.proofs.CodeSteps.{joins-touching}
use Rattle.cmark_leaf_nodes.proofs.code.joined.Goals as goal

pub returns : goal.returns
returns c text = joins-touching text c.args.waits c.in_ok-stretch.stretch c.args.next c.in_ok-stretch.was c.if-stretch-next.false
