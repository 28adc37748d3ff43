use Rattle.std.proofs.Common.{rules}
use Rattle.cmark_html.proofs.FrontSteps.{on_err, front_all}
use Rattle.cmark_html.proofs.writer.write_in_image.Goals as goal

pub returns-in-Ok-clause-writes : goal.returns-in-Ok-clause-writes
returns-in-Ok-clause-writes c = record {
  ok = search rules;
  err = on_err c.keep_inside.result (front_all _ _ _ c.in-Ok.ensures.writes.ok);
}
