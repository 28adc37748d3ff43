use Rattle.std.proofs.Common.{arith}
use Rattle.std.proofs.lemmas.Grind.{common_steps}
use Rattle.cmark_span_scan.proofs.Visited.{lack-most, lack-pays}
use Rattle.cmark_span_scan.proofs.backtick_runs.BacktickRuns.code_span.Goals as goal

pub returns-then-lacks-clause-visits : goal.returns-then-lacks-clause-visits
returns-then-lacks-clause-visits c =
    let counts = c.lacks.ensures.counts in
    record {
      grows = omega (arith, counts);
      reached = grind (arith, common_steps);
      most = λ reached lt. lack-most c.args.text.now c.args.at c.lacks.new.self.visited c.args.self.now lt c.lacks.ensures.counts;
    }

pub returns-then-lacks-clause-pays : goal.returns-then-lacks-clause-pays
returns-then-lacks-clause-pays c = λ reached lt. lack-pays c.args.text.now c.args.at c.args.self.now c.lacks.new.self lt c.lacks.ensures.counts c.lacks.ensures.others
