use Rattle.std.proofs.Common.{arith}
use Rattle.cmark_tree.proofs.Entries.{count_items}
use Rattle.cmark_tree.proofs.nodes.Nodes.count.Goals as goal

pub returns : goal.returns
returns g c = count_items c.args.self.now c.len.result (omega (arith, c.len.ensures, c.args.self.now.items.ok.0))
