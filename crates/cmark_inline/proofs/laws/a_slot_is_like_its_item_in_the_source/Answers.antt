use Rattle.cmark_inline.proofs.ItemSlots.{slot-like}
use Rattle.cmark_inline.proofs.laws.a_slot_is_like_its_item_in_the_source.Goals as goal

pub returns : goal.returns
returns c leaf reader read place r = slot-like leaf reader read place r.places r.cell r.bytes
