use Rattle.std.proofs.Common.{Some, None, length, option_map, ap, ◌∙◌}
use Rattle.cmark_grammar.specs.Tables.{alignments, cells, without_first_pipe, without_last_pipe}
use Rattle.cmark_scan_lines.proofs.FirstSteps.{pipe-found}
use Rattle.cmark_scan_lines.proofs.TableSteps.{row-of, no_row}
use Rattle.cmark_scan_lines.proofs.table.count_delimiter_cells.Goals as goal

pub returns-in_err-memchr : goal.returns-in_err-memchr
returns-in_err-memchr c =
    let line = c.args.line.now in
    c.from_residual.ensures ∙ ap (option_map length) (no_row line (pipe-found line None c.in_err-memchr.ensures))

pub returns : goal.returns
returns c =
    let line = c.args.line.now in
    c.count_columns.ensures
    ∙ ap (λ l. option_map length (alignments (cells l))) (c.without_last_pipe.ensures ∙ ap without_last_pipe (c.without_first_pipe.ensures.value ∙ ap without_first_pipe c.trimmed.ensures.value))
    ∙ ap (option_map length) (row-of line (pipe-found line (Some c.in_ok-memchr.field-0) c.in_ok-memchr.ensures))
