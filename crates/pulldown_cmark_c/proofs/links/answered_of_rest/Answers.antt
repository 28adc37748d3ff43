use Rattle.std.proofs.Common.{ℕ, [], ◌∷◌, ◌++◌, sym, ap, ap₂, subst, ◌∙◌}
use Rattle.std.specs.Iterator.{Yields}
use Rattle.std.specs.Option.{option_copied}
use Rattle.std.specs.declared.ops.Range.{Range}
use Rattle.cmark_flat_links.specs.Answering.{AnswersFrom}
use Rattle.cmark_parser.specs.Parsing.{GivesRanged}
use Rattle.cmark_text.specs.declared.event.Event.{Event}
use Rattle.pulldown_cmark_c.proofs.AnswerSteps.{callback_ends, callback_stays, lent_some}
use Rattle.pulldown_cmark_c.proofs.ItemSteps.{given_more, written_more}
use Rattle.pulldown_cmark_c.proofs.links.answered_of_rest.Goals as goal

pub loop-item-preserved : goal.loop-item-preserved
loop-item-preserved g c =
    let i = c.loop-item.invariant.so_far in
    let item : Event × Range ℕ = (c.in_ok-event.event, c.in_ok-event.range) in
    record {
      can = c.in-Some.ensures.goes.keeps;
      so_far = (i.0 ++ item ∷ [], given_more _ _ i.0 item i.1 c.in_ok-event.was, written_more i.0 item _ _ i.2 c.in_ok-append_given.ensures);
    }

pub unwrap-callback-requires : goal.unwrap-callback-requires
unwrap-callback-requires g c =
    let replacement = g.E.EntityLookup.replacement in
    let stays = callback_stays replacement c.args.iter.now c.loop-item.iter c.loop-item.yielded c.loop-item.yielded_by c.requires.asks in
    lent_some c.callback.result _ c.callback.ensures (callback_ends replacement c.loop-item.iter c.next.new.self c.in_default.ensures.steps stays)

pub returns : goal.returns
returns g c =
    let i = c.loop-item.invariant.so_far in
    let given = subst (λ items. Yields (GivesRanged AnswersFrom g.E.EntityLookup.replacement) c.args.iter.now items c.loop-item.iter) i.1 c.loop-item.yielded_by in
    record {
      items = i.0;
      callback = c.unwrap-callback.result.now;
      yields = (c.loop-item.iter, given, c.in_default.ensures.steps);
      last = sym c.callback.ensures ∙ ap option_copied c.unwrap-callback.ensures;
      kept = c.in_ok-asked.ensures.1;
      output_is = c.in_ok-extend_from_slice.ensures.items ∙ ap₂ (λ a b. a ++ b) i.2 c.in_ok-asked.ensures.0;
    }
