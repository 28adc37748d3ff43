use Rattle.std.proofs.Common.{arith}
use Rattle.std.proofs.lemmas.Grind.{common_steps}
use Rattle.cmark_html.proofs.image.append_image_end.Goals as goal

pub returns : goal.returns
returns c = record {
  ok = grind (arith, common_steps);
  err = grind (arith, common_steps);
}
