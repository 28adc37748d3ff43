use Rattle.std.proofs.Common.{[], not, ◌&&◌, sym, ap, ◌∙◌}
use Rattle.cmark_line_rules.specs.Rests.{row_of}
use Rattle.cmark_values.specs.Shown.{shown_options}
use Rattle.cmark_blocks.proofs.TableSteps.{row-by, interrupted-row}
use Rattle.cmark_blocks.proofs.table.is_row.Goals as goal

pub returns-then-not-interrupts : goal.returns-then-not-interrupts
returns-then-not-interrupts c =
    ap (λ z. not z && not c.misses_too_many.result) (sym c.if-not-interrupts.true)
    ∙ row-by (shown_options c.args.options) c.args.columns c.args.left (row_of c.args.rest) c.interrupts.result c.misses_too_many.result (c.interrupts.ensures []) c.misses_too_many.ensures

pub returns-else-not-interrupts : goal.returns-else-not-interrupts
returns-else-not-interrupts c =
    ap not c.if-not-interrupts.false
    ∙ sym (interrupted-row (shown_options c.args.options) c.args.columns c.args.left (row_of c.args.rest) (sym (c.interrupts.ensures []) ∙ c.if-not-interrupts.false))
