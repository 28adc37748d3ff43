use Rattle.std.proofs.Common.{true, take, refl, sym, ap, ◌∙◌}
use Rattle.cmark_grammar.specs.TableRows.{table_head}
use Rattle.cmark_line_rules.specs.Rests.{row_of}
use Rattle.cmark_block_model.specs.BlockPass.{ahead_in}
use Rattle.cmark_blocks.specs.Ahead.{lines_at}
use Rattle.cmark_blocks.specs.TableHeads.{may_head}
use Rattle.cmark_blocks.proofs.PipeRows.{heads-not, may-pipe}
use Rattle.cmark_blocks.proofs.TableSteps.{head-in_text, interrupts-by}
use Rattle.cmark_blocks.proofs.state.Pass.table_interrupts.Goals as goal

pub returns-then-may_head_table : goal.returns-then-may_head_table
returns-then-may_head_table g c text options lookup m runs =
    let row = row_of c.args.rest in
    let ahead = ahead_in text options lookup (take c.args.count m.outer) (lines_at text row.line_end) in
    let pipe = may-pipe options row (sym (c.may_head_table.ensures ∙ ap (λ o. may_head o row) runs.options_is) ∙ c.if-may_head_table.true) in
    c.is_some.ensures
    ∙ head-in_text options row ahead (λ next. ahead_in text options lookup (take c.args.count m.outer) (lines_at text (row_of next).line_end)) c.table_head.result (c.table_head.ensures.tells text options lookup m runs)
    ∙ sym (interrupts-by options row ahead true (table_head options row ahead) (sym pipe) refl)

pub returns-else-may_head_table : goal.returns-else-may_head_table
returns-else-may_head_table g c text options lookup m runs =
    let row = row_of c.args.rest in
    let ahead = ahead_in text options lookup (take c.args.count m.outer) (lines_at text row.line_end) in
    c.if-may_head_table.false ∙ sym (heads-not options row ahead (sym (c.may_head_table.ensures ∙ ap (λ o. may_head o row) runs.options_is) ∙ c.if-may_head_table.false))
