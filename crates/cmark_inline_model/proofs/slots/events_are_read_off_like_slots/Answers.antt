use Rattle.std.proofs.Common.{[], length, ◌∙◌}
use Rattle.cmark_grammar.specs.Quotes.{quote_characters}
use Rattle.cmark_grammar.specs.Siblings.{quotes_of}
use Rattle.cmark_inline_model.proofs.LikeSlots.{like-events, like-quoted, like-marked}
use Rattle.cmark_inline_model.proofs.SlotLaws.{dressed-events}
use Rattle.cmark_inline_model.specs.SlotRows.{marked, marks_by, quoted}
use Rattle.cmark_inline_model.proofs.slots.events_are_read_off_like_slots.Goals as goal

pub returns : goal.returns
returns c source options siblings result dressed slots others bytes quotes h like =
    let characters = quote_characters [] (quotes_of siblings) in
    let marks = marks_by (length bytes) dressed.pairs in
    like-events source (marked options bytes marks (quoted quotes characters slots) []) (marked options bytes marks (quoted quotes characters others) []) []
    (like-marked source options bytes marks (quoted quotes characters slots) (quoted quotes characters others) [] (like-quoted source quotes characters slots others like))
    ∙ dressed-events source options siblings result dressed others bytes quotes h
