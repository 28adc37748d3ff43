use Rattle.std.proofs.Common.{◌≡◌, List, map, IfOk, sym, ap, ◌∙◌, subst, Option, Vec, Global}
use Rattle.std.specs.Prelude.{option_map}
use Rattle.cmark_grammar.specs.Alignment as grammar
use Rattle.cmark_grammar.specs.Tables.{alignments, cells, without_first_pipe, without_last_pipe}
use Rattle.cmark_values.specs.declared.kind.Alignment.{Alignment}
use Rattle.cmark_values.specs.Shown.{shown_alignment}
use Rattle.cmark_scan_lines.proofs.FirstSteps.{pipe-found}
use Rattle.cmark_scan_lines.proofs.TableSteps.{row-of, no_row}
use Rattle.cmark_scan_lines.proofs.table.scan_table_head.Goals as goal

pub returns-then-is_none : goal.returns-then-is_none
returns-then-is_none c =
    let line = c.args.line.now in
    no_row line (sym c.if-is_none.ensures ∙ pipe-found line c.memchr.result c.memchr.ensures)

pub returns : goal.returns
returns c =
    let line = c.args.line.now in
    subst (λ (d : Option (List grammar.Alignment)). IfOk c.scan_cells.result (λ row. option_map (λ (columns : Vec Alignment Global). map shown_alignment columns.items) row ≡ d))
    (ap (λ l. alignments (cells l)) (c.without_last_pipe.ensures ∙ ap without_last_pipe (c.without_first_pipe.ensures.value ∙ ap without_first_pipe c.trimmed.ensures.value))
    ∙ row-of line (sym c.if-is_none.ensures ∙ pipe-found line c.memchr.result c.memchr.ensures))
    c.scan_cells.ensures
