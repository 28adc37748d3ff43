use Rattle.std.proofs.Common.{[], take, sym, ap, ◌∙◌}
use Rattle.cmark_grammar.specs.Options.{Options}
use Rattle.cmark_grammar.specs.Rows.{words_of}
use Rattle.cmark_grammar.specs.TableRows.{holds_pipe, count_cells}
use Rattle.cmark_line_rules.specs.Rests.{row_of}
use Rattle.cmark_line_rules.proofs.RestSteps.{whole}
use Rattle.cmark_block_model.specs.BlockPass.{ahead_in}
use Rattle.cmark_blocks.specs.Ahead.{lines_at}
use Rattle.cmark_blocks.proofs.TableSteps.{cells-some, head-alone, head-is, head-not}
use Rattle.cmark_blocks.proofs.state.Pass.table_head.Goals as goal

pub returns-in_err-next-clause-tells : goal.returns-in_err-next-clause-tells
returns-in_err-next-clause-tells g c text options lookup m runs =
    let row = row_of c.args.rest in
    let cells = cells-some (holds_pipe (words_of row)) (count_cells row) c.in_ok-columns.columns c.in_ok-columns.ensures in
    rw c.from_residual-in_err-next.ensures
    (head-alone options row _ (ap (λ (o : Options). o.tables) (sym runs.options_is) ∙ sym c.reads_tables.ensures ∙ c.if-not-reads_tables.false) (whole c.args.rest) cells.0 (c.in_err-next.ensures.next text options lookup m runs))

pub returns-then-is_delimiter_row-clause-tells : goal.returns-then-is_delimiter_row-clause-tells
returns-then-is_delimiter_row-clause-tells g c text options lookup m runs =
    let row = row_of c.args.rest in
    let next = row_of c.in_ok-next.next in
    let cells = cells-some (holds_pipe (words_of row)) (count_cells row) c.in_ok-columns.columns c.in_ok-columns.ensures in
    head-is options row _ c.in_ok-columns.columns next (ahead_in text options lookup (take c.args.count m.outer) (lines_at text next.line_end)) (c.in_ok-next.ensures.next text options lookup m runs)
    (ap (λ (o : Options). o.tables) (sym runs.options_is) ∙ sym c.reads_tables.ensures ∙ c.if-not-reads_tables.false) (whole c.args.rest) cells.0 cells.1
    (sym (c.is_delimiter_row.ensures []) ∙ c.if-is_delimiter_row.true)

pub returns-else-is_delimiter_row-clause-tells : goal.returns-else-is_delimiter_row-clause-tells
returns-else-is_delimiter_row-clause-tells g c text options lookup m runs =
    let row = row_of c.args.rest in
    let next = row_of c.in_ok-next.next in
    let cells = cells-some (holds_pipe (words_of row)) (count_cells row) c.in_ok-columns.columns c.in_ok-columns.ensures in
    head-not options row _ c.in_ok-columns.columns next (ahead_in text options lookup (take c.args.count m.outer) (lines_at text next.line_end)) (c.in_ok-next.ensures.next text options lookup m runs)
    (ap (λ (o : Options). o.tables) (sym runs.options_is) ∙ sym c.reads_tables.ensures ∙ c.if-not-reads_tables.false) (whole c.args.rest) cells.0 cells.1
    (sym (c.is_delimiter_row.ensures []) ∙ c.if-is_delimiter_row.false)
