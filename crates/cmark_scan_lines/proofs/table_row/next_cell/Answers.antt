use Rattle.std.proofs.Common.{◌≡◌, ◌+◌, suc, ◌∷◌, take, drop, sym, ap, ◌∙◌, arith}
use Rattle.cmark_scan_lines.specs.TableCells.{cells_after}
use Rattle.cmark_scan_bytes.proofs.Lists.{rest_of}
use Rattle.cmark_scan_lines.proofs.TableRowSteps.{found-cells}
use Rattle.cmark_scan_lines.proofs.table_row.next_cell.Goals as goal

pub returns-in-Some-clause-cells : goal.returns-in-Some-clause-cells
returns-in-Some-clause-cells c =
    let bytes = c.args.bytes.now in
    let at = c.in-Some.at in
    let more : suc at ≡ at + 1 = omega arith in
    found-cells bytes at c.in-Some.ensures.value ∙ ap (λ l. take at bytes ∷ cells_after l) (ap (λ n. drop n bytes) more ∙ sym (rest_of bytes (at + 1)))
