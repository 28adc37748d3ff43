use Rattle.std.proofs.Common.{◌<◌, ◌≤◌, List, length, set, refl, sym, ap, subst, ◌∙◌, arith}
use Rattle.std.proofs.lemmas.List.Elements.{All-set}
use Rattle.cmark_slots.specs.Slots.{IsSlot, begins_link}
use Rattle.cmark_slots.specs.Cuts.{cut_slot}
use Rattle.cmark_slots.specs.declared.slot.Slot.{Slot}
use Rattle.cmark_slots.proofs.Cutting.{cut-there, cut-past, no-new-set}
use Rattle.cmark_slots.proofs.slot.cut.Goals as goal

pub returns-then-at-len-clause-value : goal.returns-then-at-len-clause-value
returns-then-at-len-clause-value c =
    let slots : List Slot = c.args.slots.now.items in
    let t = c.if-at-len.true in
    let n = c.len.ensures in
    ap (set slots c.args.at) (c.cut_slot.ensures.value ∙ ap (cut_slot c.args.text.now c.args.place) c.index-slot.ensures)
    ∙ cut-there c.args.text.now c.args.place c.args.at slots c.index-slot.result.now (let q : c.args.at < length slots = omega (arith, t, n) in q)

pub returns-else-at-len-clause-value : goal.returns-else-at-len-clause-value
returns-else-at-len-clause-value c =
    let f = c.if-at-len.false in
    let n = c.len.ensures in
    cut-past c.args.text.now c.args.place c.args.at c.args.slots.now.items (let q : length c.args.slots.now.items ≤ c.args.at = omega (arith, f, n) in q)

pub returns-then-at-len-clause-slots : goal.returns-then-at-len-clause-slots
returns-then-at-len-clause-slots c = λ end h.
    let slots : List Slot = c.args.slots.now.items in
    let t = c.if-at-len.true in
    let n = c.len.ensures in
    let lt : c.args.at < length slots = omega (arith, t, n) in
    let s : IsSlot c.args.text.now end c.index-slot.result.now = subst (IsSlot c.args.text.now end) (sym c.index-slot.ensures) (h c.args.at c.index-slot.result.now lt) in
    All-set (IsSlot c.args.text.now end) slots c.args.at c.cut_slot.result (c.cut_slot.ensures.slot end s c.requires.place) h

pub returns-then-at-len-clause-links : goal.returns-then-at-len-clause-links
returns-then-at-len-clause-links c =
    let slots : List Slot = c.args.slots.now.items in
    let t = c.if-at-len.true in
    let n = c.len.ensures in
    let lt : c.args.at < length slots = omega (arith, t, n) in
    no-new-set slots _ c.args.at c.cut_slot.result c.index-slot.result.now lt (c.cut_slot.ensures.link ∙ ap (λ (s : Slot). begins_link s.kind) c.index-slot.ensures) refl
