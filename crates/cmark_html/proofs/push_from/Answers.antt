use Rattle.std.proofs.Common.{[], ◌∷◌, ◌++◌, Some, inl, inr, map, string_bytes, subst}
use Rattle.std.proofs.lemmas.Result.{on_ok_weaker, on_err_weaker}
use Rattle.std.proofs.iter.Next.{Yields-more}
use Rattle.std.specs.Iterator.{Yields}
use Rattle.cmark_html.specs.Writer.{writing}
use Rattle.cmark_text.specs.Shown.{shown}
use Rattle.cmark_html.proofs.FrontSteps.{on_err, front_all}
use Rattle.cmark_html.proofs.HtmlSteps.{written_more, kept_more, front_more, written_end, front_end, given_more}
use Rattle.cmark_html.proofs.push_from.Goals as goal

pub loop-event-preserved : goal.loop-event-preserved
loop-event-preserved g c =
    let goes = c.in-Some.ensures.goes.on c.loop-event.invariant.finite in
    let i = c.loop-event.invariant.so_far in
    let e = c.in_ok-event.field-0 in
    record {
      can = goes.0;
      finite = goes.1;
      so_far = (
        i.0 ++ e ∷ [],
        given_more _ _ i.0 e i.1 c.in_ok-event.was,
        written_more _ i.0 e _ _ _ i.2 i.3 c.in_ok-write_event.ensures.writes.ok,
        kept_more _ i.0 e _ i.3 c.in_ok-write_event.ensures.state,
      );
    }

pub returns-in_err-write_event-clause-err : goal.returns-in_err-write_event-clause-err
returns-in_err-write_event-clause-err g c =
    let i = c.loop-event.invariant.so_far in
    let e = c.in_ok-event.field-0 in
    let steps = g.I.Iterator.next_gives in
    let all = Yields-more steps _ c.loop-event.yielded c.loop-event.iter c.in-Some.event c.next.new.self c.loop-event.yielded_by c.in-Some.ensures.steps in
    let given = subst (λ items. Yields steps c.args.iter.now items c.next.new.self) (given_more _ _ i.0 e i.1 c.in_ok-event.was) all in
    on_err c.from_residual-in_err-write_event.result (i.0 ++ e ∷ [], inl (inl given, front_more _ i.0 e _ _ _ i.2 i.3 c.in_err-write_event.ensures.writes.err))

pub returns-clause-ok : goal.returns-clause-ok
returns-clause-ok g c =
    let i = c.loop-event.invariant.so_far in
    let given = subst (λ items. Yields g.I.Iterator.next_gives c.args.iter.now items c.loop-event.iter) i.1 c.loop-event.yielded_by in
    on_ok_weaker c.finish.result (λ more. (i.0, (c.loop-event.iter, given, c.in_default.ensures.steps), written_end (writing c.loop-event.writer) (map shown i.0) (string_bytes c.args.out.now) (string_bytes c.loop-event.out) (string_bytes c.finish.new.out) i.2 i.3 more)) c.finish.ensures.ok

pub returns-clause-err : goal.returns-clause-err
returns-clause-err g c =
    let i = c.loop-event.invariant.so_far in
    let given = subst (λ items. Yields g.I.Iterator.next_gives c.args.iter.now items c.loop-event.iter) i.1 c.loop-event.yielded_by in
    on_err_weaker c.finish.result (λ front. (i.0, inr ((c.loop-event.iter, given, c.in_default.ensures.steps), front_end (writing c.loop-event.writer) (map shown i.0) _ _ _ i.2 i.3 front))) c.finish.ensures.err

pub returns-in_err-event-clause-err : goal.returns-in_err-event-clause-err
returns-in_err-event-clause-err g c =
    let i = c.loop-event.invariant.so_far in
    let steps = g.I.Iterator.next_gives in
    let given = subst (λ items. Yields steps c.args.iter.now items c.loop-event.iter) i.1 c.loop-event.yielded_by in
    let last = subst (λ r. steps c.loop-event.iter (Some r) c.next.new.self) c.in_err-event.was c.in-Some.ensures.steps in
    on_err c.from_residual.result (i.0, inl (inr (c.in_err-event.field-0.0, (c.loop-event.iter, given, last)), front_all _ _ _ i.2))
