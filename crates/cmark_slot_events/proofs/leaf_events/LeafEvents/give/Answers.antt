use Rattle.std.proofs.Common.{length, sym, ap, subst}
use Rattle.cmark_slots.specs.SlotViews.{IsThere, link_named, text_named}
use Rattle.cmark_slot_events.specs.Events.{KeepsOthers}
use Rattle.cmark_slots.specs.declared.slot.SlotKind.{SlotKind}
use Rattle.cmark_slot_events.proofs.EventSteps.{begin-given, keeps-all, keeps-same, left-following, on-ok, single-given}
use Rattle.cmark_slot_events.proofs.leaf_events.LeafEvents.give.Goals as goal

pub returns-in-BeginLink-clause-events : goal.returns-in-BeginLink-clause-events
returns-in-BeginLink-clause-events c = λ following h.
    let s = c.args.self.now in
    let n = c.begin.new.self in
    begin-given c.args.leaf.now s.texts.items s.links.items c.args.slot following s.walk.opened.items c.begin.result n.texts.items n.links.items n.walk.opened.items c.in-BeginLink.element c.in-BeginLink.index c.in-BeginLink.is h
    (ap (λ v. v.items) c.begin.ensures.takes.texts) c.begin.ensures.takes.links c.begin.ensures.event c.begin.ensures.opens

pub returns-in-BeginLink-clause-left : goal.returns-in-BeginLink-clause-left
returns-in-BeginLink-clause-left c = λ following h.
    let s = c.args.self.now in
    let n = c.begin.new.self in
    on-ok c.begin.result _
    (left-following c.args.leaf.now s.texts.items n.texts.items s.links.items n.links.items c.args.slot following h (keeps-same (text_named c.args.slot.kind) s.texts.items n.texts.items (ap (λ v. v.items) c.begin.ensures.takes.texts))
    (subst (λ (k : SlotKind). KeepsOthers (link_named k) s.links.items n.links.items) (sym c.in-BeginLink.is) c.begin.ensures.takes.links))

pub returns-in-SourceHtml-clause-left : goal.returns-in-SourceHtml-clause-left
returns-in-SourceHtml-clause-left c = λ following h.
    let s = c.args.self.now in
    left-following c.args.leaf.now s.texts.items s.texts.items s.links.items s.links.items c.args.slot following h (keeps-all (text_named c.args.slot.kind) s.texts.items) (keeps-all (link_named c.args.slot.kind) s.links.items)

pub returns-in-Empty-clause-left : goal.returns-in-Empty-clause-left
returns-in-Empty-clause-left c = λ following h.
    let s = c.args.self.now in
    left-following c.args.leaf.now s.texts.items s.texts.items s.links.items s.links.items c.args.slot following h (keeps-all (text_named c.args.slot.kind) s.texts.items) (keeps-all (link_named c.args.slot.kind) s.links.items)

pub returns-in_default-clause-events : goal.returns-in_default-clause-events
returns-in_default-clause-events c = λ following h.
    let s = c.args.self.now in
    let n = c.over_slot.new.self in
    single-given c.args.leaf.now s.texts.items s.links.items c.args.slot following s.walk.opened.items c.over_slot.result n.texts.items n.links.items n.walk.opened.items
    c.requires.long c.in_default.not-SourceHtml c.in_default.not-SourceText c.in_default.not-Empty c.in_default.not-BeginLink h c.over_slot.ensures.texts (ap (λ v. v.items) c.over_slot.ensures.links)
    (ap (λ w. w.opened.items) c.over_slot.ensures.walk) c.over_slot.ensures.event

pub returns-in_default-clause-left : goal.returns-in_default-clause-left
returns-in_default-clause-left c = λ following h.
    let s = c.args.self.now in
    let n = c.over_slot.new.self in
    on-ok c.over_slot.result _
    (left-following c.args.leaf.now s.texts.items n.texts.items s.links.items n.links.items c.args.slot following h c.over_slot.ensures.texts
    (keeps-same (link_named c.args.slot.kind) s.links.items n.links.items (ap (λ v. v.items) c.over_slot.ensures.links)))

pub begin-requires-clause-link : goal.begin-requires-clause-link
begin-requires-clause-link c = subst (λ (k : SlotKind). IsThere (length c.args.self.now.links.items) (link_named k)) c.in-BeginLink.is c.requires.named.link
