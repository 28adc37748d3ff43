use Rattle.std.proofs.Common.{◌∙◌, ap, arith}
use Rattle.std.specs.Prelude.{min}
use Rattle.cmark_emphasis.proofs.Counting.{total-falls}
use Rattle.cmark_emphasis.proofs.Noted.{lowered, lowered_open}
use Rattle.cmark_emphasis.proofs.LeastSteps.{lower-lows}
use Rattle.cmark_emphasis.proofs.bottom.OpenersBottom.lower.Goals as goal

pub returns-clause-bottoms : goal.returns-clause-bottoms
returns-clause-bottoms c = λ stack h.
    lowered c.args.self.now _ stack c.args.height h (λ class lt. c.loop-class.invariant.lowered class (omega (arith, lt, c.loop-class-test.false))) (c.min-self.ensures ∙ ap (λ n. min n c.args.height) c.loop-class.invariant.inactive_below)

pub returns-clause-opens : goal.returns-clause-opens
returns-clause-opens c = λ stack. lowered_open c.args.self.now.inactive_below c.min-self.result c.args.height stack (c.min-self.ensures ∙ ap (λ n. min n c.args.height) c.loop-class.invariant.inactive_below)

pub returns-clause-falls : goal.returns-clause-falls
returns-clause-falls c = λ stack h.
    total-falls c.args.self.now _ stack c.args.height h (λ class lt. c.loop-class.invariant.lowered class (omega (arith, lt, c.loop-class-test.false))) (c.min-self.ensures ∙ ap (λ n. min n c.args.height) c.loop-class.invariant.inactive_below)

pub returns-clause-lows : goal.returns-clause-lows
returns-clause-lows c = λ other. lower-lows c.args.self.now _ other c.args.height (λ class lt. c.loop-class.invariant.lowered class (omega (arith, lt, c.loop-class-test.false))) (c.min-self.ensures ∙ ap (λ n. min n c.args.height) c.loop-class.invariant.inactive_below)
