use Rattle.cmark_tree.proofs.Entries.{no_nodes}
use Rattle.cmark_tree.proofs.nodes.Nodes.with_capacity.Goals as goal

pub returns : goal.returns
returns g c = no_nodes _ c.new.ensures.items
