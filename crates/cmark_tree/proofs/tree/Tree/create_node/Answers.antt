use Rattle.cmark_tree.specs.Zip.{whole}
use Rattle.cmark_tree.proofs.Steps.{grown_forest}
use Rattle.cmark_tree.proofs.tree.Tree.create_node.Goals as goal

pub returns-clause-forest : goal.returns-clause-forest
returns-clause-forest g c z h = record {
  forest = grown_forest c.args.self.now.nodes c.push.new.self c.in_ok-new.new c.args.item c.args.self.now.first (whole z) c.in_ok-new.ensures.ok h.forest;
  spine_is = h.spine_is;
  cur_is = h.cur_is;
}
