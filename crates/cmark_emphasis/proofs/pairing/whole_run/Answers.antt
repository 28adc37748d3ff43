use Rattle.std.proofs.Common.{⊎_elim, ◌<◌, ◌≤◌, arith}
use Rattle.std.proofs.lemmas.Bool.{cases_lt}
use Rattle.cmark_emphasis.proofs.pairing.whole_run.Goals as goal

pub returns-clause-placed : goal.returns-clause-placed
returns-clause-placed c =
    ⊎_elim
    (λ (some : 0 < c.args.placed.run_length). c.requires some)
    (λ (none : c.args.placed.run_length ≤ 0). omega (arith, none))
    (cases_lt 0 c.args.placed.run_length)
