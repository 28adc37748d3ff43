use Rattle.cmark_inline_model.proofs.RowPasses.{reached-end}
use Rattle.cmark_inline_model.proofs.pass_laws.the_events_of_a_leaf_are_read_off_the_slots_of_its_pass.Goals as goal

pub returns : goal.returns
returns c = reached-end
