use Rattle.std.proofs.Common.{◌≡◌, arith, subst, take}
use Rattle.cmark_safe.specs.SafeEvents.{safe}
use Rattle.cmark_safe.specs.SafeHtml.{IsSafe}
use Rattle.pulldown_cmark_c.proofs.StreamSteps.{safe_room}
use Rattle.pulldown_cmark_c.specs.Streams.{AnswersStream, numbers}
use Rattle.pulldown_cmark_c.proofs.stream.pcm_safe_stream.Goals as goal

pub returns-clause-listed : goal.returns-clause-listed
returns-clause-listed c = λ known utf8.
    let same : c.in-Ok.further.now ≡ c.args.schemes.now = grind arith in
    subst (λ further. AnswersStream (safe further) c.args.limit c.args.options c.args.text.now c.args.room.now c.answer_from.new.room (numbers c.args.cut.now c.answer_from.new.cut c.answer_from.new.settled c.answer_from.new.size) c.answer_from.result) same
    c.answer_from.ensures

pub returns-clause-safe : goal.returns-clause-safe
returns-clause-safe c = λ done.
    let same : c.in-Ok.further.now ≡ c.args.schemes.now = grind arith in
    subst (λ further. IsSafe further (take c.answer_from.new.size c.answer_from.new.room)) same
    (safe_room c.in-Ok.further.now c.args.limit c.args.options c.args.text.now c.args.room.now c.answer_from.new.room (numbers c.args.cut.now c.answer_from.new.cut c.answer_from.new.settled c.answer_from.new.size) c.answer_from.result c.answer_from.ensures done)
