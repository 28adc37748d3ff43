use Rattle.std.proofs.Common.{None, get_or, map, take, refl, sym, ap, ◌∙◌}
use Rattle.cmark_flat.specs.Replies.{shown_answer, shown_reply}
use Rattle.cmark_flat_links.proofs.TableSteps.{added, all_there, found_at, none_there, one_more, passed}
use Rattle.cmark_flat_links.proofs.table.AnswerTable.new.Goals as goal

pub loop-reply-preserved-then-contains_key : goal.loop-reply-preserved-then-contains_key
loop-reply-preserved-then-contains_key c start end =
    let rs = c.args.replies.now in
    let at = c.loop-reply.reply-index in
    let r = get_or rs at (record { start = 0; end = 0; answer = None }) in
    passed shown_answer c.loop-reply.answers (map shown_reply (take at rs)) (shown_reply r) c.loop-reply.invariant (sym c.contains_key.ensures ∙ c.if-contains_key.true) start end
    ∙ ap (found_at start end) (sym (one_more rs at (record { start = 0; end = 0; answer = None }) c.loop-reply-test.true))

pub loop-reply-preserved : goal.loop-reply-preserved
loop-reply-preserved c start end =
    let rs = c.args.replies.now in
    let at = c.loop-reply.reply-index in
    let r = get_or rs at (record { start = 0; end = 0; answer = None }) in
    added shown_answer c.loop-reply.answers c.insert.new.self (map shown_reply (take at rs)) (shown_reply r) r.answer refl c.loop-reply.invariant (none_there _ (sym c.contains_key.ensures ∙ c.if-contains_key.false)) c.in_ok-insert.ensures.updates
    start end
    ∙ ap (found_at start end) (sym (one_more rs at (record { start = 0; end = 0; answer = None }) c.loop-reply-test.true))

pub returns : goal.returns
returns c = all_there (record { answers = c.loop-reply.answers }) c.args.replies.now c.loop-reply.reply-index c.loop-reply-test.false c.loop-reply.invariant
