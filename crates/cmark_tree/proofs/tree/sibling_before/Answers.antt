use Rattle.std.proofs.Common.{◌≡◌, suc, ◌+◌, sym, ◌∙◌, subst, arith}
use Rattle.std.proofs.Math.Logic.{∥∥₁_elim}
use Rattle.cmark_tree.proofs.Releasing.{Passed, passed_none, passed_number, passed_all, passed_more, passed_few}
use Rattle.cmark_tree.proofs.Entries.{HasNumber-prop}
use Rattle.cmark_tree.proofs.tree.sibling_before.Goals as goal

pub loop-step-init : goal.loop-step-init
loop-step-init g c done p inside after h is = passed_none c.args.nodes.now c.args.head done p inside after h

pub returns-then-at-last : goal.returns-then-at-last
returns-then-at-last g c done p inside after h is =
    passed_all c.args.nodes.now c.args.head done p inside after h c.loop-step.before c.loop-step.at c.loop-step._step (c.if-at-last.true ∙ sym is) (c.loop-step.invariant done p inside after h is)

pub next-at-requires : goal.next-at-requires
next-at-requires g c = ∥∥₁_elim c.requires (HasNumber-prop _ _) (λ r.
    passed_number c.args.nodes.now c.args.head r.0 r.1 r.2 r.3 r.4 c.loop-step.before c.loop-step.at c.loop-step._step (c.loop-step.invariant r.0 r.1 r.2 r.3 r.4 r.5))

pub loop-step-preserved : goal.loop-step-preserved
loop-step-preserved g c done p inside after h is =
    subst (Passed done p inside after c.loop-step.at c.next-at.result) (let e : suc c.loop-step._step ≡ c.loop-step._step + 1 = omega arith in e)
    (passed_more c.args.nodes.now c.args.head done p inside after h c.loop-step.before c.loop-step.at c.loop-step._step c.next-at.result (λ e. c.if-at-last.false (e ∙ is)) c.next-at.ensures (c.loop-step.invariant done p inside after h is))

pub returns : goal.returns
returns g c done p inside after h is =
    absurd (passed_few c.args.nodes.now c.args.head done p inside after h c.loop-step.before c.loop-step.at c.loop-step._step (omega (arith, c.loop-step-test.false, c.count-step-end.ensures)) (c.loop-step.invariant done p inside after h is))
