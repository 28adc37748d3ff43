use Rattle.std.proofs.Common.{ap, ◌∙◌, sym, arith}
use Rattle.std.proofs.lemmas.Simd.{leading_from_mask_l, trailing_mask_l}
use lib.Count.{count_trailing_zeros}
use Rattle.cmark_search.proofs.Sets.{first-within}
use Rattle.cmark_search.proofs.search.first_lane.Goals as goal

pub returns-then-hits-eq0-clause-none : goal.returns-then-hits-eq0-clause-none
returns-then-hits-eq0-clause-none g c is = leading_from_mask_l (g.S.LaneSet.has c.args.set.now) c.args.lanes (sym c.marks-hits.ensures ∙ c.if-hits-eq0.true) ∙ c.fits-lanes.0

pub returns-clause-value : goal.returns-clause-value
returns-clause-value g c =
    ap (count_trailing_zeros 64) c.marks-hits.ensures ∙ trailing_mask_l (g.S.LaneSet.has c.args.set.now) 64 c.args.lanes (omega (arith, c.fits-lanes.0)) (omega (arith, c.if-hits-eq0.false, c.marks-hits.ensures))

pub returns-clause-small : goal.returns-clause-small
returns-clause-small g c =
    let is = ap (count_trailing_zeros 64) c.marks-hits.ensures ∙ trailing_mask_l (g.S.LaneSet.has c.args.set.now) 64 c.args.lanes (omega (arith, c.fits-lanes.0)) (omega (arith, c.if-hits-eq0.false, c.marks-hits.ensures)) in
    omega (arith, is, first-within (g.S.LaneSet.has c.args.set.now) c.args.lanes (omega (arith, c.if-hits-eq0.false, c.marks-hits.ensures)), c.fits-lanes.0)
