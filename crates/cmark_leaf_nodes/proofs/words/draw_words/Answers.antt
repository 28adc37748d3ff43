use Rattle.std.proofs.Common.{arith}
use Rattle.std.proofs.lemmas.Result.{on_ok_weaker}
use Rattle.cmark_leaf_nodes.proofs.WordSteps.{draws-words, draws-no_words}
use Rattle.cmark_leaf_nodes.proofs.words.draw_words.Goals as goal

pub returns-then-start-end-clause-drawn : goal.returns-then-start-end-clause-drawn
returns-then-start-end-clause-drawn c text d draws = draws-no_words text c.args.builder.now c.args.start c.args.end d c.if-start-end.true draws

pub returns-clause-drawn : goal.returns-clause-drawn
returns-clause-drawn c = on_ok_weaker c.add.result
    (λ step text d draws. draws-words text c.args.builder.now c.add.new.self c.args.start c.args.end d (omega (arith, c.if-start-end.false)) step c.add.ensures.tables draws) c.add.ensures.ok
