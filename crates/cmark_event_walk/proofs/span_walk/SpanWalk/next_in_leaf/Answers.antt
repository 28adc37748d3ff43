use Rattle.std.proofs.Common.{[], ◌∷◌, arith, refl, subst, sym}
use Rattle.cmark_inline_model.specs.FirstEvents.{BeginWithoutEnd}
use Rattle.cmark_slot_events.proofs.NoEnds.{long-begins}
use Rattle.cmark_slot_events.specs.Events.{events_to_come}
use Rattle.cmark_slot_events.specs.Longs.{IsLong as IsLongSlot}
use Rattle.cmark_slot_events.specs.Shorts.{IfLong as IfNextLong, IsNextFirst, LeavesFewer as LeavesFewerSpans}
use Rattle.cmark_text.specs.declared.short.Step.{Step}
use Rattle.cmark_event_walk.specs.Walking.{ComesLong, GivesInLeaf, IsLongIn, KeepsAfterLeaf, LeavesFewer, LeavesLeaf, opened_of, source_of}
use Rattle.cmark_event_walk.proofs.EndSteps.{closed-keeps, spans-begin}
use Rattle.cmark_event_walk.proofs.Readings.{closed-passes, passes-none, spanned}
use Rattle.cmark_event_walk.proofs.Walks.{before-over, closed-at, given-left, over-leaf, spanned-at}
use Rattle.cmark_event_walk.proofs.span_walk.SpanWalk.next_in_leaf.Goals as goal

pub step-requires : goal.step-requires
step-requires g c = record { over = over-leaf c.args.self.now c.requires.0 c.requires.1 c.if-not-self.false }

pub returns-then-not-self-clause-given : goal.returns-then-not-self-clause-given
returns-then-not-self-clause-given g c = λ reader r. passes-none g.F.BrokenLinkCallback.answers g.E.EntityLookup.replacement reader c.args.self.now r

pub returns-in_default-clause-ends : goal.returns-in_default-clause-ends
returns-in_default-clause-ends g c = λ reader. spans-begin g.E.EntityLookup.replacement reader c.args.self.now c.if-not-self.false c.in_default.ensures.ends

-- nothing is left in the leaf
pub returns-in-Over-clause-stands : goal.returns-in-Over-clause-stands
returns-in-Over-clause-stands g c = (c.requires.0, closed-at c.args.self.now c.step.new.self c.requires.0 c.requires.1)

pub returns-in-Over-clause-given : goal.returns-in-Over-clause-given
returns-in-Over-clause-given g c = λ reader r.
    let walk = c.args.self.now in
    let e = c.in-Ok.ensures in
    let h = subst (λ (n : Step). IsNextFirst (source_of walk) (opened_of walk) n c.step.new.self.walk.opened.items (events_to_come walk.leaf walk.events) (events_to_come walk.leaf c.step.new.self)) c.in-Over.is e.events in
    closed-passes g.F.BrokenLinkCallback.answers g.E.EntityLookup.replacement reader walk c.step.new.self r c.if-not-self.false h.0

pub returns-in-Over-clause-kept : goal.returns-in-Over-clause-kept
returns-in-Over-clause-kept g c = λ reader.
    let walk = c.args.self.now in
    let e = c.in-Ok.ensures in
    let h = subst (λ (n : Step). IsNextFirst (source_of walk) (opened_of walk) n c.step.new.self.walk.opened.items (events_to_come walk.leaf walk.events) (events_to_come walk.leaf c.step.new.self)) c.in-Over.is e.events in
    closed-keeps g.E.EntityLookup.replacement reader walk c.step.new.self c.if-not-self.false h.0

pub returns-in-Over-clause-fewer : goal.returns-in-Over-clause-fewer
returns-in-Over-clause-fewer g c =
    let most = c.in-Ok.ensures.fewer.most in
    record { fewer = tt; most = omega (arith, most); few = λ inside. c.in-Ok.ensures.fewer.few; slots = c.in-Ok.ensures.slots }

-- the leaf has a next event
pub returns-clause-stands : goal.returns-clause-stands
returns-clause-stands g c =
    let walk = c.args.self.now in
    let e = c.in-Ok.ensures in
    (c.requires.0, spanned-at walk c.step.new.self c.requires.0 c.requires.1 c.if-not-self.false e.slots e.opened (e.left (given-left walk c.requires.0 c.requires.1 c.if-not-self.false)))

pub returns-clause-outside : goal.returns-clause-outside
returns-clause-outside g c = before-over (λ n. LeavesLeaf n (record c.args.self.now { events = c.step.new.self })) c.in-Ok.next c.in_default-next.not-Over (λ short start end is. tt) (λ is. tt)

pub returns-clause-long : goal.returns-clause-long
returns-clause-long g c =
    let replacement = g.E.EntityLookup.replacement in
    let walk = c.args.self.now in
    let events = c.step.new.self in
    let new = record walk { events = events } in
    let inside = c.if-not-self.false in
    let e = c.in-Ok.ensures in
    before-over (λ n. IfNextLong n (ComesLong replacement walk new)) c.in-Ok.next c.in_default-next.not-Over (λ short start end is. tt)
    (λ is.
    let long = subst (λ (n : Step). IfNextLong n (IsLongSlot events)) is e.long in
    let h = subst (λ (n : Step). IsNextFirst (source_of walk) (opened_of walk) n events.walk.opened.items (events_to_come walk.leaf walk.events) (events_to_come walk.leaf events)) is e.events in
    record {
      long = subst (λ b. IsLongIn b new) (sym inside) long;
      no_end = λ reader. spans-begin replacement reader walk inside (subst BeginWithoutEnd h.1 (long-begins walk.leaf events long));
    })

pub returns-clause-given : goal.returns-clause-given
returns-clause-given g c = λ reader r.
    let walk = c.args.self.now in
    let inside = c.if-not-self.false in
    let e = c.in-Ok.ensures in
    let at = spanned-at walk c.step.new.self r.left r.stands inside e.slots e.opened (e.left (given-left walk r.left r.stands inside)) in
    before-over (λ n. GivesInLeaf g.F.BrokenLinkCallback.answers g.E.EntityLookup.replacement reader walk n (record walk { events = c.step.new.self })) c.in-Ok.next c.in_default-next.not-Over
    (λ short start end is.
    let h = subst (λ (n : Step). IsNextFirst (source_of walk) (opened_of walk) n c.step.new.self.walk.opened.items (events_to_come walk.leaf walk.events) (events_to_come walk.leaf c.step.new.self)) is e.events in
    record {
      given = h.given;
      is = h.is;
      range = h.follows.range;
      lent = h.lent;
      passes = spanned g.F.BrokenLinkCallback.answers g.E.EntityLookup.replacement reader walk c.step.new.self (h.given ∷ []) r inside at h.first;
    })
    (λ is.
    let h = subst (λ (n : Step). IsNextFirst (source_of walk) (opened_of walk) n c.step.new.self.walk.opened.items (events_to_come walk.leaf walk.events) (events_to_come walk.leaf c.step.new.self)) is e.events in
    spanned g.F.BrokenLinkCallback.answers g.E.EntityLookup.replacement reader walk c.step.new.self [] r inside at (sym h.1))

pub returns-clause-kept : goal.returns-clause-kept
returns-clause-kept g c = λ reader. before-over (λ n. KeepsAfterLeaf g.E.EntityLookup.replacement reader c.args.self.now n (record c.args.self.now { events = c.step.new.self })) c.in-Ok.next c.in_default-next.not-Over (λ short start end is. tt) (λ is. tt)

pub returns-clause-fewer : goal.returns-clause-fewer
returns-clause-fewer g c =
    let e = c.in-Ok.ensures in
    let most = e.fewer.most in
    record {
      fewer =
          before-over (λ n. LeavesFewer c.args.self.now n (record c.args.self.now { events = c.step.new.self })) c.in-Ok.next c.in_default-next.not-Over
          (λ short start end is. let fewer = subst (λ n. LeavesFewerSpans c.args.self.now.events n c.step.new.self) is e.fewer.fewer in omega (arith, fewer))
          (λ is. omega (arith, most));
      most = omega (arith, most);
      few = λ inside. e.fewer.few;
      slots = e.slots;
    }

-- the walk is in no leaf, and nothing changes
pub returns-then-not-self-clause-around : goal.returns-then-not-self-clause-around
returns-then-not-self-clause-around g c = record { callback = refl; inline = refl; budget = refl; source = refl; definitions = refl; footnotes = refl }

pub returns-in_default-clause-around : goal.returns-in_default-clause-around
returns-in_default-clause-around g c = record { callback = refl; inline = refl; budget = refl; source = refl; definitions = refl; footnotes = refl }

pub returns-in-Over-clause-around : goal.returns-in-Over-clause-around
returns-in-Over-clause-around g c = record { callback = refl; inline = refl; budget = refl; source = refl; definitions = refl; footnotes = refl }

pub returns-clause-around : goal.returns-clause-around
returns-clause-around g c = record { callback = refl; inline = refl; budget = refl; source = refl; definitions = refl; footnotes = refl }
