use Rattle.std.proofs.Common.{sym, ◌∙◌, arith, true≢false, length}
use Rattle.cmark_emphasis.specs.Shown.{shown_run}
use Rattle.cmark_emphasis.proofs.Counting.{class-rises, has-class, inactive-rises, not-deactivating, searching-deactivates, tilde-deactivates}
use Rattle.cmark_emphasis.proofs.LeastSteps.{kinds-class, kinds-inactive}
use Rattle.cmark_emphasis.proofs.Noted.{noted}
use Rattle.cmark_emphasis.proofs.Deactivates.{deactivate_all}
use Rattle.cmark_emphasis.proofs.bottom.OpenersBottom.note.Goals as goal

pub returns-then-deactivates-clause-opens : goal.returns-then-deactivates-clause-opens
returns-then-deactivates-clause-opens c = deactivate_all (shown_run c.args.closer) c.args.self.now.inactive_below c.args.stack.now (sym c.deactivates.ensures ∙ c.if-deactivates.true)

pub returns-in-Some-clause-bottoms : goal.returns-in-Some-clause-bottoms
returns-in-Some-clause-bottoms c =
    noted (shown_run c.args.closer) c.args.self.now c.args.stack.now c.in-Some.class c.requires.bottoms (sym c.in-Some.ensures.value) (record { closes = c.if-closer.true; left = c.if-closer-gt0.true }) (grind (arith, c.in-Some.ensures.within)) c.requires.none

pub returns-then-deactivates-clause-rises : goal.returns-then-deactivates-clause-rises
returns-then-deactivates-clause-rises c = λ known on. inactive-rises c.args.self.now (shown_run c.args.closer) (length c.args.stack.now) (tilde-deactivates (shown_run c.args.closer) (sym c.deactivates.ensures ∙ c.if-deactivates.true))

pub returns-then-deactivates-clause-rests : goal.returns-then-deactivates-clause-rests
returns-then-deactivates-clause-rests c = λ off. absurd (true≢false (sym (searching-deactivates (shown_run c.args.closer) (sym c.deactivates.ensures ∙ c.if-deactivates.true)) ∙ off))

pub returns-in-Some-clause-rises : goal.returns-in-Some-clause-rises
returns-in-Some-clause-rises c = λ known on.
    class-rises c.args.self.now (shown_run c.args.closer) c.in-Some.class (length c.args.stack.now) (sym c.in-Some.ensures.value) (grind (arith, c.in-Some.ensures.within)) c.in-Some.ensures.within

pub returns-in_default-clause-rises : goal.returns-in_default-clause-rises
returns-in_default-clause-rises c = λ known on.
    absurd (has-class (shown_run c.args.closer) known (not-deactivating (shown_run c.args.closer) (sym c.deactivates.ensures ∙ c.if-deactivates.false) on) (sym c.in_default.ensures.value))

pub returns-then-deactivates-clause-kinds : goal.returns-then-deactivates-clause-kinds
returns-then-deactivates-clause-kinds c = λ other k lt. kinds-inactive (shown_run c.args.closer) other c.args.self.now (length c.args.stack.now) k (sym c.deactivates.ensures ∙ c.if-deactivates.true) lt

pub returns-in-Some-clause-kinds : goal.returns-in-Some-clause-kinds
returns-in-Some-clause-kinds c = λ other k lt. kinds-class (shown_run c.args.closer) other c.args.self.now c.in-Some.class (length c.args.stack.now) k (sym c.in-Some.ensures.value) lt
