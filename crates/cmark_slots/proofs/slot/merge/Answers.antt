use Rattle.std.proofs.Common.{get_or, set, sym, ap, subst, ◌∙◌, arith}
use Rattle.std.proofs.lemmas.List.{get_or_default}
use Rattle.cmark_slots.specs.MarkedSlots.{whole_to}
use Rattle.cmark_slots.specs.Slots.{IsSlot}
use Rattle.cmark_slots.specs.declared.slot.Slot.{Slot}
use Rattle.cmark_slots.proofs.slot.merge.Goals as goal

pub returns-clause-slots : goal.returns-clause-slots
returns-clause-slots c = λ text place h.
    let s : IsSlot text place c.index.result.now = subst (IsSlot text place) (sym c.index.ensures) (h c.args.last c.index.result.now c.requires.within) in
    c.become_whole.ensures.slots text place (c.use_up_between.ensures.slots text place h) s.part.ends s.before

pub returns-clause-value : goal.returns-clause-value
returns-clause-value c =
    let h = c.use_up_between.ensures.hides in
    record {
      between = c.use_up_between.new.slots.items;
      hides = h;
      slots_are = λ d.
          c.become_whole.ensures.value d
          ∙ ap (λ (s : Slot). set c.use_up_between.new.slots.items c.args.first (whole_to c.args.last s.end (get_or c.use_up_between.new.slots.items c.args.first d)))
          (c.index.ensures ∙ get_or_default c.args.slots.now.items c.args.last c.index.result.now d c.requires.within)
          ∙ ap (λ (s : Slot). set c.use_up_between.new.slots.items c.args.first (whole_to c.args.last (get_or c.args.slots.now.items c.args.last d).end s)) (h.before c.args.first d (omega arith));
    }
