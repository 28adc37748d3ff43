use Rattle.std.proofs.Common.{sym, subst}
use Rattle.std.proofs.lemmas.List.Elements.{All-set}
use Rattle.cmark_slots.specs.Slots.{IsSlot}
use Rattle.cmark_slots.proofs.Steps.{widened}
use Rattle.cmark_slots.proofs.slot.begin.Goals as goal

pub returns-clause-slots : goal.returns-clause-slots
returns-clause-slots c = λ text place h edge before.
    let s : IsSlot text place c.index-slot.result.now = subst (IsSlot text place) (sym c.index-slot.ensures) (h c.args.at c.index-slot.result.now c.requires.there) in
    All-set (IsSlot text place) c.args.slots.now.items c.args.at _ (widened text place c.args.end c.max.result c.index-slot.result.now c.args.kind s edge before c.max.ensures (c.requires.content text)) h
