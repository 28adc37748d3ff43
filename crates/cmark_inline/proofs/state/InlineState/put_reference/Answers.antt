use Rattle.cmark_inline.proofs.state.InlineState.put_reference.Goals as goal

pub returns-clause-slots : goal.returns-clause-slots
returns-clause-slots c = λ text place slots is reference. c.in_ok-put_slot.ensures.slots text place (c.put_mark.ensures.slots text place (c.hide.ensures.slots text place slots) is) reference
