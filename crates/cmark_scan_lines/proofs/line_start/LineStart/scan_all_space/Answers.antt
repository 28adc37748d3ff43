use Rattle.std.proofs.Common.{◌≡◌, drop, refl, ap, ◌∙◌, arith}
use Rattle.cmark_scan_lines.specs.LineStart.{columns_from}
use Rattle.cmark_grammar.specs.Columns.{indent}
use Rattle.cmark_scan_lines.proofs.LineStartSteps.{columns-further, same-following, row-following, whole-following}
use Rattle.cmark_scan_lines.proofs.line_start.LineStart.scan_all_space.Goals as goal

pub loop-init : goal.loop-init
loop-init c = record { line = refl; held = refl; whole = refl; same = λ at. whole-following at c.args.self.now }

pub loop-preserved : goal.loop-preserved
loop-preserved c =
    let inv = c.loop.invariant in
    record {
      line = c.take_blank.ensures.line ∙ inv.line;
      held = c.take_blank.ensures.held ∙ inv.held;
      whole = c.take_blank.ensures.whole;
      same = λ at. same-following at c.take_blank.result c.loop.self c.take_blank.new.self c.take_blank.ensures.line c.take_blank.ensures.taken (c.take_blank.ensures.blank at) ∙ inv.same at;
    }

pub returns : goal.returns
returns c at line_end =
    let inv = c.loop.invariant in
    let step = c.take_blank.ensures in
    let none : c.take_blank.result ≡ 0 = let z = c.loop-test.false in omega arith in
    row-following at line_end c.args.self.now c.take_blank.new.self (step.line ∙ inv.line) (step.held ∙ inv.held)
    (same-following at c.take_blank.result c.loop.self c.take_blank.new.self step.line step.taken (step.blank at) ∙ inv.same at)
    (ap indent (columns-further at c.take_blank.result c.loop.self c.take_blank.new.self step.line step.taken ∙ ap (λ n. drop n (columns_from at c.loop.self)) none) ∙ step.none at none)
