use Rattle.std.proofs.Common.{◌≡◌, suc, ◌+◌, subst, arith}
use Rattle.std.proofs.Math.Logic.{∥∥₁_elim}
use Rattle.cmark_tree.proofs.Cutting.{SoFar, sofar_sibling, sibling_number, sofar_step, cut_none, cut_here, cut_all}
use Rattle.cmark_tree.proofs.Entries.{HasNumber-prop}
use Rattle.cmark_tree.proofs.truncate.cut_place.Goals as goal

pub returns-then-cut-eq0 : goal.returns-then-cut-eq0
returns-then-cut-eq0 g c f h =
    cut_none g.T.TreeSpan.spans c.args.to c.args.nodes.now f c.args.head c.loop-step.cut.kept c.loop-step.cut.at c.loop-step._step h c.if-cut-eq0.true (c.loop-step.invariant f h)

pub item-requires : goal.item-requires
item-requires g c = ∥∥₁_elim c.requires (HasNumber-prop _ _) (λ r.
    let f = r.0 in
    let a = sofar_sibling g.T.TreeSpan.spans c.args.to c.args.nodes.now f c.args.head c.loop-step.cut.kept c.loop-step.cut.at c.loop-step._step r.1 c.if-cut-eq0.false (c.loop-step.invariant f r.1) in
    sibling_number g.T.TreeSpan.spans c.args.to c.args.nodes.now f c.loop-step.cut.kept c.loop-step.cut.at c.loop-step._step a)

pub returns-then-end-to : goal.returns-then-end-to
returns-then-end-to g c f h =
    let a = sofar_sibling g.T.TreeSpan.spans c.args.to c.args.nodes.now f c.args.head c.loop-step.cut.kept c.loop-step.cut.at c.loop-step._step h c.if-cut-eq0.false (c.loop-step.invariant f h) in
    cut_here g.T.TreeSpan.spans c.args.to c.args.nodes.now f c.loop-step.cut.kept c.loop-step.cut.at c.loop-step._step c.item.result.now a c.item.ensures (omega (arith, c.end.ensures, c.if-end-to.true))

pub next-requires : goal.next-requires
next-requires g c = ∥∥₁_elim c.requires (HasNumber-prop _ _) (λ r.
    let f = r.0 in
    let a = sofar_sibling g.T.TreeSpan.spans c.args.to c.args.nodes.now f c.args.head c.loop-step.cut.kept c.loop-step.cut.at c.loop-step._step r.1 c.if-cut-eq0.false (c.loop-step.invariant f r.1) in
    sibling_number g.T.TreeSpan.spans c.args.to c.args.nodes.now f c.loop-step.cut.kept c.loop-step.cut.at c.loop-step._step a)

pub loop-step-preserved : goal.loop-step-preserved
loop-step-preserved g c f h =
    let a = sofar_sibling g.T.TreeSpan.spans c.args.to c.args.nodes.now f c.args.head c.loop-step.cut.kept c.loop-step.cut.at c.loop-step._step h c.if-cut-eq0.false (c.loop-step.invariant f h) in
    subst (SoFar g.T.TreeSpan.spans c.args.to f c.loop-step.cut.at c.next.result) (let e : suc c.loop-step._step ≡ c.loop-step._step + 1 = omega arith in e)
    (sofar_step g.T.TreeSpan.spans c.args.to c.args.nodes.now f c.loop-step.cut.kept c.loop-step.cut.at c.loop-step._step c.next.result c.item.result.now a c.item.ensures c.next.ensures (omega (arith, c.end.ensures, c.if-end-to.false)))

pub returns : goal.returns
returns g c f h =
    cut_all g.T.TreeSpan.spans c.args.to c.args.nodes.now f c.args.head c.loop-step.cut.kept c.loop-step.cut.at c.loop-step._step h (omega (arith, c.loop-step-test.false, c.count-step-end.ensures)) (c.loop-step.invariant f h)
