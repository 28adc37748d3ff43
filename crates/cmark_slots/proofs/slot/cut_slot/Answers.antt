use Rattle.std.specs.Prelude.{if◌then◌else◌}
use Rattle.std.proofs.Common.{sym, ap, ◌∙◌}
use Rattle.cmark_slots.specs.Cuts.{cut_kind}
use Rattle.cmark_slots.specs.declared.slot.Slot.{Slot}
use Rattle.cmark_slots.specs.declared.slot.SlotKind.{SlotKind}
use Rattle.cmark_slots.proofs.Cutting.{cut-stays}
use Rattle.cmark_slots.proofs.slot.cut_slot.Goals as goal

pub returns-then-is_inside-clause-value : goal.returns-then-is_inside-clause-value
returns-then-is_inside-clause-value c =
    let slot : Slot = c.args.slot in
    ap (λ (k : SlotKind). record { kind = k; start = c.args.place; end = slot.end }) c.cut_kind.ensures.value
    ∙ sym (ap (λ z. if z then record { kind = cut_kind c.args.text.now slot.start slot.end slot.kind; start = c.args.place; end = slot.end } else slot) (sym c.if-is_inside.ensures))

pub returns-clause-value : goal.returns-clause-value
returns-clause-value c =
    let slot : Slot = c.args.slot in
    sym (ap (λ z. if z then record { kind = cut_kind c.args.text.now slot.start slot.end slot.kind; start = c.args.place; end = slot.end } else slot) (sym c.if-is_inside.ensures))

pub returns-then-is_inside-clause-slot : goal.returns-then-is_inside-clause-slot
returns-then-is_inside-clause-slot c = λ end h edge.
    cut-stays c.args.text.now c.args.place end c.args.slot c.cut_kind.result h edge (sym c.if-is_inside.ensures) (c.cut_kind.ensures.content h.content)
