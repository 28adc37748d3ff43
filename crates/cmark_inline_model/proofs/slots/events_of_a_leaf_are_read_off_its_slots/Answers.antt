use Rattle.std.proofs.Common.{sym, ◌∙◌}
use Rattle.cmark_inline_model.proofs.SlotLaws.{dressed-events}
use Rattle.cmark_inline_model.proofs.slots.events_of_a_leaf_are_read_off_its_slots.Goals as goal

pub returns : goal.returns
returns c reader exchanges leaf before after events r dressed slots bytes quotes h =
    dressed-events reader.source reader.options r.are.siblings r.spans dressed slots bytes quotes h ∙ sym r.events_are
