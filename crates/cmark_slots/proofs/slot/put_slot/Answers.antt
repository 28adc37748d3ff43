use Rattle.std.proofs.Common.{sym, subst}
use Rattle.std.proofs.lemmas.List.Elements.{All-push}
use Rattle.cmark_slots.specs.Slots.{AreSlots, IsSlot}
use Rattle.cmark_slots.proofs.Steps.{no-new}
use Rattle.cmark_slots.proofs.slot.put_slot.Goals as goal

pub returns-clause-slots : goal.returns-clause-slots
returns-clause-slots c = λ text place old is.
    subst (AreSlots text place) (sym c.in_ok-push_slot.ensures) (All-push (IsSlot text place) c.args.slots.now.items _ old is)

pub returns-clause-links : goal.returns-clause-links
returns-clause-links c = no-new c.args.slots.now.items c.push_slot.new.slots.items _ c.requires.kind c.in_ok-push_slot.ensures
