use Rattle.std.proofs.Common.{rules, arith}
use Rattle.std.proofs.lemmas.Grind.{common_steps}
use Rattle.cmark_html.proofs.image.write_inside.Goals as goal

pub returns-in_err-deepen-in-Start-clause-writes : goal.returns-in_err-deepen-in-Start-clause-writes
returns-in_err-deepen-in-Start-clause-writes c = record {
  ok = search rules;
  err = grind (arith, common_steps);
}
