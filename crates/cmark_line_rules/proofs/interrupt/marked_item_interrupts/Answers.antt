use Rattle.std.proofs.Common.{not, sym, ap, ◌∙◌}
use Rattle.cmark_grammar.specs.Openings.{item_interrupts}
use Rattle.cmark_line_rules.specs.Rests.{row_of}
use Rattle.cmark_line_rules.proofs.OpeningRows.{item-goes}
use Rattle.cmark_line_rules.proofs.interrupt.marked_item_interrupts.Goals as goal

pub returns-then-is_one : goal.returns-then-is_one
returns-then-is_one c =
    let r = row_of c.args.rest in
    let item = c.in-Some.item in
    ap not c.is_blank.ensures
    ∙ item-goes r (row_of c.in-Some.inside) c.args.same item.delimiter item.number item.width c.if-not-same.false (sym c.is_one.ensures ∙ c.if-is_one.true) c.in-Some.ensures.inside
    ∙ ap (item_interrupts c.args.same r) c.in-Some.ensures.item
