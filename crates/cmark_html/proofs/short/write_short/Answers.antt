use Rattle.std.proofs.Common.{rules, arith}
use Rattle.std.proofs.lemmas.Grind.{common_steps}
use Rattle.cmark_html.proofs.short.write_short.Goals as goal

pub returns-in-HardBreak-clause-writes : goal.returns-in-HardBreak-clause-writes
returns-in-HardBreak-clause-writes c = record {
  ok = search rules;
  err = grind (arith, common_steps);
}
