use Rattle.std.proofs.Common.{refl, subst}
use Rattle.std.proofs.lemmas.Result.{on_err_weaker, on_ok_weaker}
use Rattle.cmark_grammar.specs.SpanDocuments.{Given as GivenOf}
use Rattle.cmark_text.specs.Ranged.{shown_ranged}
use Rattle.cmark_event_walk.specs.Walking.{IsLongIn}
use Rattle.cmark_event_walk.proofs.EndSteps.{blocks-begin, spans-begin}
use Rattle.cmark_event_walk.proofs.Readings.{event-passes, long-gives}
use Rattle.cmark_event_walk.proofs.Walks.{following-at, given-left, over-leaf, spanned-at}
use Rattle.cmark_event_walk.proofs.span_walk.SpanWalk.take_long.Goals as goal

-- in a leaf
pub take_long-requires-clause-over : goal.take_long-requires-clause-over
take_long-requires-clause-over g c = over-leaf c.args.self.now c.requires.stands.0 c.requires.stands.1 c.if-self.true

pub take_long-requires-clause-left : goal.take_long-requires-clause-left
take_long-requires-clause-left g c = given-left c.args.self.now c.requires.stands.0 c.requires.stands.1 c.if-self.true

pub take_long-requires-clause-long : goal.take_long-requires-clause-long
take_long-requires-clause-long g c = subst (λ b. IsLongIn b c.args.self.now) c.if-self.true c.requires.long

pub returns-then-self-clause-stands : goal.returns-then-self-clause-stands
returns-then-self-clause-stands g c =
    let walk = c.args.self.now in
    let s = c.requires.stands in
    let e = c.take_long.ensures in
    on_ok_weaker c.take_long.result (λ left. (s.0, spanned-at walk c.take_long.new.self s.0 s.1 c.if-self.true e.slots e.opened left)) e.left

pub returns-then-self-clause-given : goal.returns-then-self-clause-given
returns-then-self-clause-given g c = λ reader r.
    let e = c.take_long.ensures in
    long-gives g.F.BrokenLinkCallback.answers g.E.EntityLookup.replacement reader c.take_long.result c.args.self.now c.take_long.new.self r c.if-self.true e.slots e.opened e.left e.gives

pub returns-then-self-clause-ends : goal.returns-then-self-clause-ends
returns-then-self-clause-ends g c = on_err_weaker c.take_long.result (λ begin reader. spans-begin g.E.EntityLookup.replacement reader c.args.self.now c.if-self.true begin) c.take_long.ensures.ends

-- outside of a leaf
pub returns-clause-stands : goal.returns-clause-stands
returns-clause-stands g c =
    let walk = c.args.self.now in
    let s = c.requires.stands in
    let e = c.in-Ok.ensures in
    let gives = e.given s.0 s.1.blocks.remains in
    (gives.0, following-at walk c.take_long-2.new.self walk.lines c.if-self.false e.goes_on.text _ s.0 (GivenOf (shown_ranged c.in-Ok.given)) gives.0 s.1 gives.1 gives.2 refl)

pub returns-clause-given : goal.returns-clause-given
returns-clause-given g c = λ reader r.
    let walk = c.args.self.now in
    let e = c.in-Ok.ensures in
    let gives = e.given r.left r.stands.blocks.remains in
    let event = event-passes g.F.BrokenLinkCallback.answers g.E.EntityLookup.replacement reader walk c.take_long-2.new.self walk.lines c.if-self.false e.goes_on.text e.goes_on.definitions _ (shown_ranged c.in-Ok.given) gives.0 r gives.1 gives.2 refl in
    record { range = event.0; passes = event.1 }

pub returns-in_default-clause-ends : goal.returns-in_default-clause-ends
returns-in_default-clause-ends g c = λ reader. blocks-begin g.E.EntityLookup.replacement reader c.args.self.now c.if-self.false c.in_default.ensures.refused.no_end
