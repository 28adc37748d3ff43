use Rattle.std.proofs.lemmas.Result.{on_err_weaker, on_ok_weaker}
use Rattle.cmark_event_walk.proofs.EndSteps.{spans-begin}
use Rattle.cmark_event_walk.proofs.Readings.{on-both, start-passes}
use Rattle.cmark_event_walk.proofs.Walks.{given-left, link-inside, over-leaf, spanned-at}
use Rattle.cmark_event_walk.proofs.span_walk.SpanWalk.pass_link.Goals as goal

pub pass_link-requires-clause-over : goal.pass_link-requires-clause-over
pass_link-requires-clause-over g c = over-leaf c.args.self.now c.requires.stands.0 c.requires.stands.1 (link-inside c.args.self.now c.requires.ahead)

pub returns-clause-stands : goal.returns-clause-stands
returns-clause-stands g c =
    let walk = c.args.self.now in
    let s = c.requires.stands in
    let inside = link-inside walk c.requires.ahead in
    let e = c.pass_link.ensures in
    on_ok_weaker c.pass_link.result (λ left. (s.0, spanned-at walk c.pass_link.new.self s.0 s.1 inside e.slots e.opened left)) (e.left (given-left walk s.0 s.1 inside))

pub returns-clause-given : goal.returns-clause-given
returns-clause-given g c = λ reader r.
    let walk = c.args.self.now in
    let new = c.pass_link.new.self in
    let inside = link-inside walk c.requires.ahead in
    let e = c.pass_link.ensures in
    on_ok_weaker c.pass_link.result
    (λ both. start-passes g.F.BrokenLinkCallback.answers g.E.EntityLookup.replacement reader walk new r inside (spanned-at walk new r.left r.stands inside e.slots e.opened both.0) both.1)
    (on-both c.pass_link.result _ _ (e.left (given-left walk r.left r.stands inside)) e.events)

pub returns-clause-ends : goal.returns-clause-ends
returns-clause-ends g c = on_err_weaker c.pass_link.result (λ begin reader. spans-begin g.E.EntityLookup.replacement reader c.args.self.now (link-inside c.args.self.now c.requires.ahead) begin) c.pass_link.ensures.ends
