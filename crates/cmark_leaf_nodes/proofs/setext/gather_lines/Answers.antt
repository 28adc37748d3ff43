use Rattle.cmark_leaf_nodes.proofs.ReadSteps.{read-at}
use Rattle.cmark_leaf_nodes.proofs.setext.gather_lines.Goals as goal

pub bytes_in-requires : goal.bytes_in-requires
bytes_in-requires c = read-at c.args.text.now c.args.before.now c.loop-rest.rest-index c.rest-item.result c.requires.before c.loop-rest-test.true c.rest-item.is
