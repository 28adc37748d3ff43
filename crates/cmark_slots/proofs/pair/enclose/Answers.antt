use Rattle.std.proofs.Common.{refl, sym, ap, subst, ◌∙◌}
use Rattle.std.proofs.lemmas.List.{get_or_default}
use Rattle.cmark_slots.specs.Slots.{IsSlot}
use Rattle.cmark_slots.specs.declared.slot.Slot.{Slot}
use Rattle.cmark_slots.proofs.Marks.{enclosed}
use Rattle.cmark_slots.proofs.pair.enclose.Goals as goal

pub returns-clause-slots : goal.returns-clause-slots
returns-clause-slots c = λ text place h.
    let s : IsSlot text place c.index.result.now = subst (IsSlot text place) (sym c.index.ensures) (h c.args.last c.index.result.now c.requires.within) in
    c.begin.ensures.slots text place (c.use_up.ensures.slots text place h) s.part.ends s.before

pub returns-clause-value : goal.returns-clause-value
returns-clause-value c = λ d.
    enclosed c.args.slots.now.items c.use_up.new.slots.items c.begin.new.slots.items c.args.first c.args.last c.index.result.now.end c.args.element d (c.use_up.ensures.ends d refl)
    (ap (λ (s : Slot). s.end) (c.index.ensures ∙ get_or_default c.args.slots.now.items c.args.last c.index.result.now d c.requires.within)) c.begin.ensures.value c.requires.order
