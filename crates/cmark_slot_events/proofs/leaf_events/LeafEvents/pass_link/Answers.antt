use Rattle.std.proofs.Common.{◌≤◌, ◌+◌, ap, length, length-append, ◌∷◌, [], refl, sym, subst, ◌∙◌, arith}
use Rattle.std.proofs.lemmas.List.Elements.{All-push}
use Rattle.cmark_leaf_text.specs.Reads.{IsPart, source_of}
use Rattle.cmark_text.specs.declared.event.TagEnd.TheVariants as tag_end
use Rattle.cmark_slot_events.specs.Opens.{AreOpened}
use Rattle.cmark_slot_events.specs.declared.leaf_events.Opened.{Opened}
use Rattle.cmark_slot_events.specs.declared.leaf_events.LeafEvents.{LeafEvents}
use Rattle.cmark_slot_events.proofs.LinkStartSteps.{ahead-lies, slot-part, starts-first, starts-no-end}
use Rattle.cmark_slot_events.proofs.NoEnds.{on-err}
use Rattle.cmark_slot_events.proofs.StillToCome.{left-later}
use Rattle.cmark_slot_events.proofs.leaf_events.LeafEvents.pass_link.Goals as goal

pub returns-in_err-push-clause-ends : goal.returns-in_err-push-clause-ends
returns-in_err-push-clause-ends c =
    let old = c.args.self.now in
    on-err c.from_residual.result _ (starts-no-end c.args.leaf.now old.texts.items old.links.items old.slots.items old.walk.opened.items old.walk.next c.index-slot.result.now c.index-slot.ensures c.requires.ahead)

pub returns-clause-left : goal.returns-clause-left
returns-clause-left c = λ left.
    let old : LeafEvents = c.args.self.now in
    let new : LeafEvents = record old { walk = record old.walk { next = old.walk.next + 1; opened = c.push.new.self } } in
    left-later c.args.leaf.now old new refl refl refl (let q : old.walk.next ≤ new.walk.next = omega arith in q) left

pub returns-clause-opened : goal.returns-clause-opened
returns-clause-opened c =
    let source = source_of c.args.leaf.now in
    subst (AreOpened source) (sym c.in_ok-push.ensures.items)
    (All-push (λ (one : Opened). IsPart source one.start one.end) c.args.self.now.walk.opened.items _ c.requires.over.opened c.range-range.ensures.part)

pub returns-clause-fewer : goal.returns-clause-fewer
returns-clause-fewer c =
    let old = c.args.self.now in
    let lt = ahead-lies old.links.items old.slots.items old.walk.next c.requires.ahead in
    let l = ap length c.in_ok-push.ensures.items ∙ length-append old.walk.opened.items (record { tag = tag_end.Link; start = c.range-range.result.start; end = c.range-range.result.end } ∷ []) in
    omega (arith, lt, l)

pub returns-clause-events : goal.returns-clause-events
returns-clause-events c =
    let old = c.args.self.now in
    starts-first c.args.leaf.now old.texts.items old.links.items old.slots.items old.walk.opened.items old.walk.next c.index-slot.result.now c.index-slot.ensures c.requires.ahead c.push.new.self.items c.range-range.result.start c.range-range.result.end
    c.requires.over.read (slot-part c.args.leaf.now old.slots.items old.walk.next c.index-slot.result.now (ahead-lies old.links.items old.slots.items old.walk.next c.requires.ahead) c.index-slot.ensures c.requires.over.slots) c.range-range.ensures.start c.range-range.ensures.end c.in_ok-push.ensures.items
