use Rattle.std.proofs.Common.{◌≡◌, length, sym, ap, subst, arith}
use Rattle.std.proofs.lemmas.Grind.{common_steps}
use Rattle.cmark_grammar.specs.LabelsOverLines.{with_literal_pipes}
use Rattle.cmark_values.specs.Shown.{text_bytes}
use Rattle.cmark_values.specs.Lending.{IsBorrowed}
use Rattle.cmark_scan_bytes.proofs.PipeSteps.{none_left_out}
use Rattle.cmark_scan.proofs.LabelSteps.{ok_same}
use Rattle.cmark_scan.proofs.label.scan_link_label_rest.Goals as goal

pub returns-clause-borrowed : goal.returns-clause-borrowed
returns-clause-borrowed g c whole =
    let label = c.in-Some.label in
    let short = rw c.in-Some.is at c.in_ok-label.ensures.short in
    let borrowed = rw c.in-Some.is at c.in_ok-label.ensures.borrowed in
    let left = ap length c.in_ok-with_literal_pipes.ensures.value in
    let none : with_literal_pipes (text_bytes label.text) ≡ text_bytes label.text = none_left_out (text_bytes label.text) (omega (arith, short, left, whole)) in
    let is = ok_same _ _ (c.in_ok-with_literal_pipes.ensures.kept none) in
    subst IsBorrowed (sym is) (borrowed (let same = ap length none in omega (arith, left, whole, same)))

pub returns-clause-boundary : goal.returns-clause-boundary
returns-clause-boundary g c = grind (arith, common_steps)
