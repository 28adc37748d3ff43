use Rattle.std.proofs.Common.{not, ◌&&◌, true, Some, None, option_map, sym, ap, ◌∙◌}
use Rattle.cmark_grammar.specs.Leaves.{underlines}
use Rattle.cmark_grammar.specs.Openings.{interrupts, is_none}
use Rattle.cmark_values.specs.Shown.{level_number, shown_options}
use Rattle.cmark_line_rules.specs.Rests.{row_of}
use Rattle.cmark_blocks.proofs.ahead.is_text.Goals as goal

pub returns-then-interrupts : goal.returns-then-interrupts
returns-then-interrupts c ahead =
    ap (λ b. not b && is_none (underlines (row_of c.args.rest))) (sym c.if-interrupts.true ∙ c.interrupts.ensures ahead)

pub returns-in-Some : goal.returns-in-Some
returns-in-Some c ahead =
    let r = row_of c.args.rest in
    ap (λ b. not b && is_none (option_map level_number (Some c.in-Some.field-0))) (sym c.if-interrupts.false ∙ c.interrupts.ensures ahead)
    ∙ ap (λ o. not (interrupts (shown_options c.args.options) true r ahead) && is_none o) (ap (option_map level_number) (sym c.in-Some.is) ∙ c.underlines.ensures)

pub returns-in-None : goal.returns-in-None
returns-in-None c ahead =
    let r = row_of c.args.rest in
    ap (λ b. not b && is_none (option_map level_number None)) (sym c.if-interrupts.false ∙ c.interrupts.ensures ahead)
    ∙ ap (λ o. not (interrupts (shown_options c.args.options) true r ahead) && is_none o) (ap (option_map level_number) (sym c.in-None.is) ∙ c.underlines.ensures)
