use Rattle.std.proofs.Common.{ℕ, List, set, ap, ◌∙◌}
use Rattle.cmark_slots.specs.declared.slot.Slot.{Slot}
use Rattle.cmark_slots.specs.declared.slot.SlotKind.TheVariants as kind
use Rattle.cmark_slots.proofs.Quotes.{becomes}
use Rattle.cmark_slots.proofs.slot.become_character.Goals as goal

pub returns-clause-value : goal.returns-clause-value
returns-clause-value c =
    let slots : List Slot = c.args.slots.now.items in
    let character : ℕ = c.args.character in
    ap (λ (s : Slot). set slots c.args.at (record { kind = kind.Character character; start = s.start; end = s.end })) c.index-slot.ensures
    ∙ becomes slots c.args.at character c.index-slot.result.now c.requires.there
