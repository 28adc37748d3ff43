use Rattle.std.proofs.Common.{subst}
use Rattle.std.proofs.lemmas.Result.{on_ok_weaker}
use Rattle.cmark_grammar.specs.BlockDocument.{OwnedText, Nil, Node, node}
use Rattle.cmark_block_model.specs.Drawing.{drawn}
use Rattle.cmark_builder.specs.Drawn.{Draws}
use Rattle.cmark_leaf_nodes.proofs.WordSteps.{draws-owned}
use Rattle.cmark_leaf_nodes.proofs.stretch.draw_spaces.Goals as goal

pub returns-clause-drawn : goal.returns-clause-drawn
returns-clause-drawn c = on_ok_weaker c.add.result
    (λ step text d draws. subst (λ bs. Draws text c.add.new.self (drawn (Node (node (OwnedText bs) c.args.at c.args.at) Nil Nil) d)) c.spaces.ensures
    (draws-owned text c.args.builder.now c.add.new.self c.allocate_cow.new.self _ c.in_ok-spaces.spaces c.args.at c.args.at d c.in_ok-spaces.ensures.index c.in_ok-spaces.ensures.kept step c.add.ensures.tables draws))
    c.add.ensures.ok
