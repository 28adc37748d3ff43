use Rattle.cmark_slots.proofs.pair.use_up_inner.Goals as goal

pub returns-clause-slots : goal.returns-clause-slots
returns-clause-slots c = λ text place h. c.use_up-2.ensures.slots text place (c.use_up.ensures.slots text place h)
