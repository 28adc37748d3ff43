use Rattle.std.proofs.Common.{◌≡◌, ◌⊎◌, ⊎_elim, subst}
use Rattle.cmark_values.specs.Shown.{IsBoxed}
use Rattle.cmark_values.specs.Lending.{IsLentBy}
use Rattle.cmark_slots.proofs.Lending.{bytes_over, code-part, lent-or-own}
use Rattle.cmark_slot_events.proofs.content.Content.code_in_cell.Goals as goal

pub returns-in-Borrowed-clause-part : goal.returns-in-Borrowed-clause-part
returns-in-Borrowed-clause-part c =
    let bytes = bytes_over c.args.self.now.leaf.now c.args.self.now.from c.args.self.now.to in
    let either = lent-or-own c.in-Ok-without_pipe_escapes.content c.in-Ok.written bytes c.in-Ok-without_pipe_escapes.ensures.own c.in-Ok.ensures.source in
    let is : c.in-Borrowed.part.now ≡ bytes = ⊎_elim (λ e. e) (λ none. absurd none) (subst (λ t. IsLentBy bytes t ⊎ IsBoxed t) c.in-Borrowed.is either) in
    code-part c.code_text.result c.in-Borrowed.part.now c.args.self.now.leaf.now c.args.self.now.from c.args.self.now.to c.requires.read c.requires.part is c.code_text.ensures.part
