use Rattle.cmark_tree.proofs.Entries.{link_place, at_place}
use Rattle.cmark_tree.proofs.nodes.Nodes.next.Goals as goal

pub next-requires : goal.next-requires
next-requires g c = link_place c.args.self.now c.args.ix c.requires

pub returns : goal.returns
returns g c e at = c.next.ensures _ (at_place c.args.self.now c.args.ix e c.requires at).1
