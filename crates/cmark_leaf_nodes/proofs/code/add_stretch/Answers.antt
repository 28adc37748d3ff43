use Rattle.cmark_leaf_nodes.proofs.CodeSteps.{goes-none, piece_if-none, goes-joined}
use Rattle.cmark_leaf_nodes.proofs.code.add_stretch.Goals as goal

pub returns-then-next-clause-goes : goal.returns-then-next-clause-goes
returns-then-next-clause-goes c text = goes-none text c.args.builder.now c.args.waits _ (piece_if-none text c.args.next.start c.args.next.end _ c.if-next.true)

pub returns-in-Some-clause-goes : goal.returns-in-Some-clause-goes
returns-in-Some-clause-goes c text = goes-joined text c.args.builder.now c.args.waits c.in-Some.both c.args.next c.if-next.false (c.in-Some.ensures text)
