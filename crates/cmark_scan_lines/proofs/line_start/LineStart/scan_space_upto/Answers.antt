use Rattle.std.proofs.Common.{refl, ◌∙◌, arith}
use Rattle.std.proofs.lemmas.Grind.{elements}
use Rattle.cmark_scan_lines.proofs.LineStartSteps.{pending-blank, pending-within, more-blank, all-blank}
use Rattle.cmark_scan_lines.proofs.line_start.LineStart.scan_space_upto.Goals as goal

pub loop-count-init : goal.loop-count-init
loop-count-init c =
    let line = c.args.self.now in
    let within = pending-within line in
    record {
      line = refl;
      held = refl;
      taken = omega arith;
      within = omega arith;
      whole = λ lt. omega arith;
      blank = λ at. let h = pending-blank at line in omega arith;
    }

pub loop-count-preserved : goal.loop-count-preserved
loop-count-preserved c =
    let inv = c.loop-count.invariant in
    let taken = c.take_blank-width.ensures.taken in
    let whole = c.take_blank-width.ensures.whole in
    record {
      line = c.take_blank-width.ensures.line ∙ inv.line;
      held = c.take_blank-width.ensures.held ∙ inv.held;
      taken = let i = inv.taken in omega arith;
      within = omega arith;
      whole = λ lt. omega arith;
      blank = λ at. more-blank at c.loop-count.count c.min-part.result c.take_blank-width.result c.args.self.now c.loop-count.self inv.line inv.taken (inv.blank at) (omega arith) (c.take_blank-width.ensures.blank at);
    }

pub returns-then-width-eq0-clause-count : goal.returns-then-width-eq0-clause-count
returns-then-width-eq0-clause-count c at =
    let inv = c.loop-count.invariant in
    all-blank at c.args.n c.loop-count.count c.args.self.now c.loop-count.self inv.line inv.taken inv.within (inv.blank at) (c.take_blank-width.ensures.none at c.if-width-eq0.true)

pub returns-then-width-eq0-clause-rest : goal.returns-then-width-eq0-clause-rest
returns-then-width-eq0-clause-rest c = grind (arith, elements)
