use Rattle.cmark_tree.proofs.Building.{Is-close}
use Rattle.cmark_tree.proofs.tree.Tree.close.Goals as goal

pub returns : goal.returns
returns g c here v up is = Is-close c.args.self.now c.pop.new.self here v up c.pop.ensures.popped is
