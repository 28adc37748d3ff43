use Rattle.std.proofs.Common.{ℕ, List, ◌<◌, ◌≤◌, ◌+◌, ◌-◌, ◌/◌, length, subst, arith}
use Rattle.cmark_leaf_text.specs.Stretches.{AreStretches, joined, place_in}
use Rattle.cmark_leaf_text.specs.declared.stretch.Stretch.{Stretch}
use Rattle.cmark_leaf_text.proofs.StretchSteps.{place-order}
use Rattle.cmark_leaf_text.proofs.leaf_text.LeafText.first_from.Goals as goal

-- a later byte of the text is not earlier in the source
order : (source : List ℕ) (ss : List Stretch) (a b : ℕ) → AreStretches source 0 0 ss → a ≤ b → b < length (joined source ss) → place_in ss a ≤ place_in ss b
order source ss a b all le lt = place-order source 0 0 ss a b all (let q : 0 ≤ a = omega arith in q) le (let q : b < 0 + length (joined source ss) = omega (arith, lt) in q)

pub loop-low-preserved-then-place : goal.loop-low-preserved-then-place
loop-low-preserved-then-place c =
    let source : List ℕ = c.args.self.now.source.now in
    let ss : List Stretch = c.args.self.now.stretches.items in
    let middle : ℕ = c.loop-low.low + (c.loop-low.high - c.loop-low.low) / 2 in
    let t = c.loop-low-test.true in
    let w = c.loop-low.invariant.within in
    let lt : middle < c.loop-low.high = omega (arith, t) in
    let here : place_in ss middle < c.args.place = subst (λ p. p < c.args.place) c.place.ensures.value c.if-place.true in
    record {
      ordered = (let q : middle + 1 ≤ c.loop-low.high = omega (arith, lt) in q);
      within = w;
      before = λ k l.
          let p = order source ss k middle c.requires.stretches (let q : k ≤ middle = omega (arith, l) in q) (let q : middle < length (joined source ss) = omega (arith, lt, w) in q) in
          omega (arith, p, here);
      following = c.loop-low.invariant.following;
    }

pub loop-low-preserved : goal.loop-low-preserved
loop-low-preserved c =
    let source : List ℕ = c.args.self.now.source.now in
    let ss : List Stretch = c.args.self.now.stretches.items in
    let middle : ℕ = c.loop-low.low + (c.loop-low.high - c.loop-low.low) / 2 in
    let t = c.loop-low-test.true in
    let w = c.loop-low.invariant.within in
    let lt : middle < c.loop-low.high = omega (arith, t) in
    let n = c.if-place.false in
    let v = c.place.ensures.value in
    let here : c.args.place ≤ place_in ss middle = omega (arith, n, v) in
    record {
      ordered = (let q : c.loop-low.low ≤ middle = omega arith in q);
      within = (let q : middle ≤ length (joined source ss) = omega (arith, lt, w) in q);
      before = c.loop-low.invariant.before;
      following = λ k l m.
          let p = order source ss middle k c.requires.stretches l m in
          omega (arith, p, here);
    }
