use Rattle.std.proofs.Common.{rules}
use Rattle.cmark_html.proofs.FrontSteps.{on_err, front_all}
use Rattle.cmark_html.proofs.writer.write_outside.Goals as goal

pub returns-in_err-image-in-Ok-clause-writes : goal.returns-in_err-image-in-Ok-clause-writes
returns-in_err-image-in-Ok-clause-writes c = record {
  ok = search rules;
  err = on_err c.from_residual.result (front_all _ _ _ c.in-Ok.ensures.writes.ok);
}
