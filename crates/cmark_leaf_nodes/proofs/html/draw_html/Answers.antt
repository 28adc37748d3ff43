use Rattle.std.proofs.lemmas.Result.{on_ok_weaker}
use Rattle.cmark_leaf_nodes.proofs.CodeSteps.{piece_if-none, draws-html-none, draws-html}
use Rattle.cmark_leaf_nodes.proofs.html.draw_html.Goals as goal

pub returns-then-stretch-clause-drawn : goal.returns-then-stretch-clause-drawn
returns-then-stretch-clause-drawn c text d draws = draws-html-none text c.args.builder.now _ d (piece_if-none text c.args.stretch.start c.args.stretch.end _ c.if-stretch.true) draws

pub returns-clause-drawn : goal.returns-clause-drawn
returns-clause-drawn c = on_ok_weaker c.add.result (λ step text d draws. draws-html text c.args.builder.now c.add.new.self c.args.stretch d c.if-stretch.false step c.add.ensures.tables draws) c.add.ensures.ok
