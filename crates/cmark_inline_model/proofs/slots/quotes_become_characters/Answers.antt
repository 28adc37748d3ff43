use Rattle.cmark_inline_model.proofs.SlotQuotes.{quotes-written}
use Rattle.cmark_inline_model.proofs.slots.quotes_become_characters.Goals as goal

pub returns : goal.returns
returns c siblings characters before slots bytes quotes h =
    let q = quotes-written siblings before slots bytes quotes characters h in
    (q.now, q.cut, q.laid)
