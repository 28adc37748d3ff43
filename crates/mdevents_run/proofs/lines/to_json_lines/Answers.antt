use Rattle.std.proofs.Common.{string_bytes}
use Rattle.std.proofs.lemmas.Result.{IfOk-weaker}
use Rattle.mdevents_run.specs.Renders.{says-nothing}
use Rattle.mdevents_run.proofs.LineSteps.{rendered}
use Rattle.mdevents_run.proofs.lines.to_json_lines.Goals as goal

pub returns : goal.returns
returns g c =
    IfOk-weaker c.lines_of.result _ _
    (λ output all. rendered says-nothing g.E.EntityLookup.replacement c.in_ok-parser.parser c.into_offset_iter-iter.result c.args.text.now _ _ all.items (string_bytes output) c.into_offset_iter-iter.ensures.walk c.in_ok-parser.ensures.callback c.in_ok-parser.ensures.reads (c.lines_of.new.iter, all.yields) all.output_is)
    c.lines_of.ensures
