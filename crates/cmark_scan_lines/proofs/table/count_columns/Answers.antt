use Rattle.std.proofs.Common.{suc, length, option_map, refl, sym, ap, ◌∙◌, arith}
use Rattle.std.proofs.lemmas.List.{length-drop}
use Rattle.cmark_grammar.specs.Leaves.{trimmed}
use Rattle.cmark_grammar.specs.Tables.{alignment_of, alignments, cells}
use Rattle.cmark_values.specs.Shown.{shown_alignment}
use Rattle.cmark_scan_bytes.proofs.Lists.{rest_of}
use Rattle.cmark_scan_lines.proofs.FirstSteps.{first-within}
use Rattle.cmark_scan_lines.proofs.TableSteps.{following-pipe}
use Rattle.cmark_scan_lines.proofs.TableRowSteps.{counted-none, next-counted, none-counted, last-counted, none-last}
use Rattle.cmark_scan_lines.proofs.table.count_columns.Goals as goal

pub loop-at-init : goal.loop-at-init
loop-at-init c = (counted-none (alignments (cells c.args.row.now)), omega arith)

pub returns-in_err-scan_cell : goal.returns-in_err-scan_cell
returns-in_err-scan_cell c =
    c.from_residual.ensures
    ∙ none-counted c.args.row.now c.loop-at.rest.now c.loop-at.columns c.loop-at.invariant.0 c.in-Some.at c.in-Some.ensures
    (ap (option_map shown_alignment) (sym (c.in_err-scan_cell.was)) ∙ c.scan_cell.ensures ∙ ap alignment_of (c.trimmed.ensures.value ∙ ap trimmed c.split_at.ensures.front))

pub loop-at-preserved : goal.loop-at-preserved
loop-at-preserved c =
    let following = rest_of c.split_at.result.1.now 1 ∙ following-pipe c.in-Some.at c.loop-at.rest.now c.split_at.result.1.now c.split_at.ensures.back in
    let within = first-within 124 c.loop-at.rest.now c.in-Some.at c.in-Some.ensures in
    let less = ap length following ∙ length-drop (suc c.in-Some.at) c.loop-at.rest.now in
    let low = c.loop-at.invariant.1 in (
      next-counted c.args.row.now c.loop-at.rest.now c.loop-at.columns c.loop-at.invariant.0 c.in-Some.at c.in-Some.ensures _ (shown_alignment c.in_ok-scan_cell.field-0) _
          (ap (option_map shown_alignment) (sym (c.in_ok-scan_cell.was)) ∙ c.scan_cell.ensures ∙ ap alignment_of (c.trimmed.ensures.value ∙ ap trimmed c.split_at.ensures.front)) refl following,
      omega (arith, low, less, within),
    )

pub returns-in_err-scan_cell-2 : goal.returns-in_err-scan_cell-2
returns-in_err-scan_cell-2 c =
    c.from_residual-in_err-scan_cell-2.ensures
    ∙ none-last c.args.row.now c.loop-at.rest.now c.loop-at.columns c.loop-at.invariant.0 c.in_default.ensures
    (ap (option_map shown_alignment) (sym (c.in_err-scan_cell-2.was)) ∙ c.scan_cell-2.ensures ∙ ap alignment_of c.trimmed-2.ensures.value)

pub returns : goal.returns
returns c =
    last-counted c.args.row.now c.loop-at.rest.now c.loop-at.columns c.loop-at.invariant.0 c.in_default.ensures _ (shown_alignment c.in_ok-scan_cell-2.field-0)
    (ap (option_map shown_alignment) (sym (c.in_ok-scan_cell-2.was)) ∙ c.scan_cell-2.ensures ∙ ap alignment_of c.trimmed-2.ensures.value) refl
