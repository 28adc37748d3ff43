use Rattle.std.proofs.lemmas.Result.{on_ok_weaker}
use Rattle.cmark_leaf_nodes.proofs.CodeSteps.{draws-waiting, draws-none}
use Rattle.cmark_leaf_nodes.proofs.code.draw_stretch.Goals as goal

pub returns-in-Some-clause-drawn : goal.returns-in-Some-clause-drawn
returns-in-Some-clause-drawn c = on_ok_weaker c.add.result (λ step text d draws. draws-waiting text c.args.builder.now c.add.new.self c.args.waits c.in-Some.stretch d c.in-Some.is step c.add.ensures.tables draws) c.add.ensures.ok

pub returns-in-None-clause-drawn : goal.returns-in-None-clause-drawn
returns-in-None-clause-drawn c text d draws = draws-none text c.args.builder.now c.args.waits d c.in-None.is draws
