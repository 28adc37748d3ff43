use Rattle.std.proofs.lemmas.Result.{on_ok_weaker}
use Rattle.cmark_blocks.proofs.state.Pass.begin_anew.Goals as goal

pub returns-clause-runs : goal.returns-clause-runs
returns-clause-runs g c =
    on_ok_weaker c.begin.result
    (λ ran. λ text options lookup m runs. ran text options lookup _ (c.in_ok-close_leaf.ensures.runs text options lookup m runs))
    c.begin.ensures.runs
