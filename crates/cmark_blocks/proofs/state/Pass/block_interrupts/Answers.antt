use Rattle.std.proofs.Common.{◌||◌, sym, ap, ◌∙◌}
use Rattle.cmark_grammar.specs.DefinitionLists.{begins_definition}
use Rattle.cmark_line_rules.specs.Rests.{row_of}
use Rattle.cmark_blocks.proofs.state.Pass.block_interrupts.Goals as goal

pub returns-then-table_interrupts : goal.returns-then-table_interrupts
returns-then-table_interrupts g c text options lookup m runs =
    let row = row_of c.args.rest in
    c.if-table_interrupts.true ∙ ap (λ z. z || begins_definition options row) (sym c.if-table_interrupts.true ∙ c.table_interrupts.ensures text options lookup m runs)

pub returns-else-table_interrupts : goal.returns-else-table_interrupts
returns-else-table_interrupts g c text options lookup m runs =
    let row = row_of c.args.rest in
    c.begins_definition.ensures ∙ ap (λ o. begins_definition o row) runs.options_is
    ∙ ap (λ z. z || begins_definition options row) (sym c.if-table_interrupts.false ∙ c.table_interrupts.ensures text options lookup m runs)
