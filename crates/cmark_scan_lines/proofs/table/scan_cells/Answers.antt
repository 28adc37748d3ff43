use Rattle.std.proofs.Common.{ap, ◌∙◌}
use Rattle.cmark_grammar.specs.Leaves.{trimmed}
use Rattle.cmark_grammar.specs.Tables.{alignment_of}
use Rattle.cmark_scan_bytes.proofs.Lists.{rest_of}
use Rattle.cmark_scan_lines.proofs.TableSteps.{next-column, no_next-column, last-column, no_last-column, following-pipe}
use Rattle.cmark_scan_lines.proofs.table.scan_cells.Goals as goal

pub returns-in_default-scan_cell : goal.returns-in_default-scan_cell
returns-in_default-scan_cell c =
    no_next-column c.args.row.now c.loop-at.rest.now c.loop-at.columns.items c.loop-at.invariant c.in-Some.at c.in-Some.ensures
    (c.in_default-scan_cell.ensures ∙ ap alignment_of (c.trimmed.ensures.value ∙ ap trimmed c.split_at.ensures.front))

pub loop-at-preserved : goal.loop-at-preserved
loop-at-preserved c =
    next-column c.args.row.now c.loop-at.rest.now c.loop-at.columns.items c.loop-at.invariant c.in-Some.at c.in-Some.ensures c.push.new.self.items c.in-Some-scan_cell.alignment _
    (c.in-Some-scan_cell.ensures ∙ ap alignment_of (c.trimmed.ensures.value ∙ ap trimmed c.split_at.ensures.front)) c.in_ok-push.ensures.items
    (rest_of c.split_at.result.1.now 1 ∙ following-pipe c.in-Some.at c.loop-at.rest.now c.split_at.result.1.now c.split_at.ensures.back)

pub returns-in_default-scan_cell-2 : goal.returns-in_default-scan_cell-2
returns-in_default-scan_cell-2 c =
    no_last-column c.args.row.now c.loop-at.rest.now c.loop-at.columns.items c.loop-at.invariant c.in_default.ensures (c.in_default-scan_cell-2.ensures ∙ ap alignment_of c.trimmed-2.ensures.value)

pub returns : goal.returns
returns c =
    last-column c.args.row.now c.loop-at.rest.now c.loop-at.columns.items c.loop-at.invariant c.in_default.ensures c.push-2.new.self.items c.in-Some-scan_cell-2.alignment
    (c.in-Some-scan_cell-2.ensures ∙ ap alignment_of c.trimmed-2.ensures.value) c.in_ok-push-2.ensures.items
