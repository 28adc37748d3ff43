use Rattle.std.proofs.Common.{rules, arith}
use Rattle.std.proofs.lemmas.Grind.{common_steps}
use Rattle.cmark_text.proofs.escape.push_percent_encoded.Goals as goal

pub returns : goal.returns
returns c = record {
  ok = grind (arith, common_steps);
  err = grind (arith, common_steps);
}

pub returns-in_err-push : goal.returns-in_err-push
returns-in_err-push c = record {
  ok = search rules;
  err = grind (arith, common_steps);
}
