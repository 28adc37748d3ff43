use Rattle.std.proofs.Common.{rules, arith}
use Rattle.std.proofs.lemmas.Grind.{elements}
use Rattle.cmark_html.proofs.start.append_numbered.Goals as goal

pub returns : goal.returns
returns c = record {
  ok = grind (arith, elements);
  err = search rules;
}
