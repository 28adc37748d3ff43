use Rattle.std.proofs.lemmas.Result.{IfOk-weaker}
use Rattle.pulldown_cmark_c.proofs.FlatSteps.{all_written}
use Rattle.pulldown_cmark_c.proofs.flat.flat_of.Goals as goal

pub returns : goal.returns
returns g c =
    IfOk-weaker c.flat_of_rest.result _ _
    (λ output all. all_written g.E.EntityLookup.replacement c.in_ok-parser.parser c.into_offset_iter-iter.result c.flat_of_rest.new.iter c.args.text.now _ _ output.items c.into_offset_iter-iter.ensures.walk c.in_ok-parser.ensures.callback c.in_ok-parser.ensures.reads all)
    c.flat_of_rest.ensures
