use Rattle.std.proofs.Common.{refl}
use Rattle.cmark_tree.proofs.Entries.{link_place, number_has_room, next_changes}
use Rattle.cmark_tree.proofs.nodes.Nodes.set_next.Goals as goal

pub set_next-requires-clause-at : goal.set_next-requires-clause-at
set_next-requires-clause-at g c = link_place c.args.self.now c.args.ix c.requires.number

pub set_next-requires-clause-to : goal.set_next-requires-clause-to
set_next-requires-clause-to g c = number_has_room c.args.self.now c.args.to c.requires.to

pub returns : goal.returns
returns g c = next_changes c.args.self.now _ c.args.ix c.args.to c.requires.number refl c.set_next.ensures.links
