use Rattle.std.proofs.Common.{ℕ, [], ◌∷◌, ◌++◌, subst}
use Rattle.std.specs.Iterator.{Yields}
use Rattle.std.specs.declared.ops.Range.{Range}
use Rattle.cmark_text.specs.declared.event.Event.{Event}
use Rattle.cmark_parser.specs.Parsing.{GivesRanged}
use Rattle.mdevents_run.specs.Renders.{says-nothing}
use Rattle.mdevents_run.proofs.LineSteps.{given_more, written_more}
use Rattle.mdevents_run.proofs.lines.lines_of.Goals as goal

pub loop-item-preserved : goal.loop-item-preserved
loop-item-preserved g c =
    let i = c.loop-item.invariant.so_far in
    let item : Event × Range ℕ = (c.in_ok-event.event, c.in_ok-event.range) in
    record {
      can = c.in-Some.ensures.goes.keeps;
      so_far = (i.0 ++ item ∷ [], given_more _ _ i.0 item i.1 c.in_ok-event.was, written_more i.0 item _ _ i.2 c.in_ok-append_given.ensures);
    }

pub returns : goal.returns
returns g c =
    let i = c.loop-item.invariant.so_far in
    let given = subst (λ items. Yields (GivesRanged says-nothing g.E.EntityLookup.replacement) c.args.iter.now items c.loop-item.iter) i.1 c.loop-item.yielded_by in
    record { items = i.0; yields = (c.loop-item.iter, given, c.in_default.ensures.steps); output_is = i.2 }
