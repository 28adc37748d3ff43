use Rattle.std.proofs.Common.{◌&&◌, not, take, sym, ap, ◌∙◌}
use Rattle.cmark_grammar.specs.TableRows.{table_interrupts}
use Rattle.cmark_line_rules.specs.Rests.{row_of}
use Rattle.cmark_block_model.specs.BlockPass.{ahead_in}
use Rattle.cmark_blocks.specs.Ahead.{lines_at}
use Rattle.cmark_blocks.proofs.state.Pass.is_lazy.Goals as goal

pub returns-then-may_be_lazy : goal.returns-then-may_be_lazy
returns-then-may_be_lazy g c text options lookup m last others split runs =
    let row = row_of c.args.rest in
    let table = table_interrupts options row (ahead_in text options lookup (take c.args.kept m.outer) (lines_at text row.line_end)) in
    ap not (c.table_interrupts.ensures text options lookup m runs)
    ∙ sym (c.may_be_lazy.ensures text options lookup m last others split runs ∙ ap (λ z. z && not table) c.if-may_be_lazy.true)

pub returns-else-may_be_lazy : goal.returns-else-may_be_lazy
returns-else-may_be_lazy g c text options lookup m last others split runs =
    let row = row_of c.args.rest in
    let table = table_interrupts options row (ahead_in text options lookup (take c.args.kept m.outer) (lines_at text row.line_end)) in
    c.if-may_be_lazy.false
    ∙ sym (c.may_be_lazy.ensures text options lookup m last others split runs ∙ ap (λ z. z && not table) c.if-may_be_lazy.false)
