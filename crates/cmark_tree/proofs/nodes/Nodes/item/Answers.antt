use Rattle.std.proofs.Common.{arith}
use Rattle.cmark_tree.proofs.Entries.{stored_place, read_item}
use Rattle.cmark_tree.proofs.nodes.Nodes.item.Goals as goal

pub index-requires : goal.index-requires
index-requires g c = omega (arith, stored_place c.args.self.now c.args.ix c.requires, c.args.self.now.items.ok.0)

pub returns : goal.returns
returns g c e at = read_item c.args.self.now c.args.ix c.index.result.now e c.requires c.index.ensures at
