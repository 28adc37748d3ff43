use Rattle.cmark_tree.proofs.Entries.{link_place, at_place}
use Rattle.cmark_tree.proofs.nodes.Nodes.child.Goals as goal

pub child-requires : goal.child-requires
child-requires g c = link_place c.args.self.now c.args.ix c.requires

pub returns : goal.returns
returns g c e at = c.child.ensures _ (at_place c.args.self.now c.args.ix e c.requires at).1
