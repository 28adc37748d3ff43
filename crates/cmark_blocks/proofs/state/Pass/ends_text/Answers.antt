use Rattle.std.proofs.Common.{true, ◌||◌, refl, sym, ap, ◌∙◌}
use Rattle.cmark_grammar.specs.Openings.{interrupts}
use Rattle.cmark_line_rules.specs.Rests.{row_of}
use Rattle.cmark_line_rules.proofs.RestSteps.{whole}
use Rattle.cmark_blocks.specs.Ahead.{lines_at}
use Rattle.cmark_blocks.specs.TablesAhead.{block_interrupts}
use Rattle.cmark_blocks.proofs.CutSteps.{ends-text}
use Rattle.cmark_blocks.proofs.state.Pass.ends_text.Goals as goal

pub returns-then-interrupts : goal.returns-then-interrupts
returns-then-interrupts g c text options lookup m runs =
    let r = row_of c.args.line in
    let next = lines_at text r.line_end in
    c.if-interrupts.true
    ∙ ap (λ z. z || block_interrupts options r next) (sym c.if-interrupts.true)
    ∙ ends-text text options lookup r next c.interrupts.result (block_interrupts options r next) (whole c.args.line) (c.interrupts.ensures next ∙ ap (λ o. interrupts o true r next) runs.options_is) refl

pub returns-else-interrupts : goal.returns-else-interrupts
returns-else-interrupts g c text options lookup m runs =
    let r = row_of c.args.line in
    let next = lines_at text r.line_end in
    ap (λ z. z || c.block_interrupts.result) (sym c.if-interrupts.false)
    ∙ ends-text text options lookup r next c.interrupts.result c.block_interrupts.result (whole c.args.line) (c.interrupts.ensures next ∙ ap (λ o. interrupts o true r next) runs.options_is) (c.block_interrupts.ensures text options lookup m runs)
