use Rattle.std.proofs.Common.{◌≡◌, ◌+◌, ◌-◌, min, slice_index, refl, sym, ap, ◌∙◌, arith}
use Rattle.cmark_search.proofs.Sets.{chunk-fails, chunk-le, chunk-stops, place-within}
use Rattle.cmark_search.proofs.search.find_between.Goals as goal

pub returns-then-at-to-clause-value : goal.returns-then-at-to-clause-value
returns-then-at-to-clause-value g c =
    let p = g.S.LaneSet.has c.args.set.now in
    let at = c.loop-at.at in
    let n = c.args.to - at in
    let passed = c.find_in_few.result in
    let le = chunk-le p c.args.bytes.now c.args.from at n passed (omega arith) c.find_in_few.ensures.value c.loop-at.invariant.passed in
    place-within p c.args.bytes.now c.args.from (at + passed) c.args.to (omega (arith, c.loop-at.invariant.from)) (omega (arith, le)) (omega (arith, c.requires.inside))
    (chunk-fails p c.args.bytes.now c.args.from at n passed (omega arith) c.find_in_few.ensures.value c.loop-at.invariant.passed)
    (λ low. chunk-stops p c.args.bytes.now c.args.from at n passed (omega arith) c.find_in_few.ensures.value c.loop-at.invariant.passed (omega arith))

pub returns-then-at-to-clause-here : goal.returns-then-at-to-clause-here
returns-then-at-to-clause-here g c low =
    chunk-stops (g.S.LaneSet.has c.args.set.now) c.args.bytes.now c.args.from c.loop-at.at (c.args.to - c.loop-at.at) c.find_in_few.result (omega arith) c.find_in_few.ensures.value c.loop-at.invariant.passed (omega arith)

pub returns-in-Some-clause-here : goal.returns-in-Some-clause-here
returns-in-Some-clause-here g c low =
    let p = g.S.LaneSet.has c.args.set.now in
    let place : c.min.result ≡ c.loop-at.at + c.in-Some.passed = omega (arith, c.min.ensures, low) in
    ap (λ n. p (slice_index c.args.bytes.now n)) place ∙ chunk-stops p c.args.bytes.now c.args.from c.loop-at.at 16 c.in-Some.passed (omega arith) c.in-Some.ensures.value c.loop-at.invariant.passed c.in-Some.ensures.small

pub returns-in-Some-clause-value : goal.returns-in-Some-clause-value
returns-in-Some-clause-value g c =
    let p = g.S.LaneSet.has c.args.set.now in
    let least : c.min.result ≡ min c.args.to (c.loop-at.at + c.in-Some.passed) = c.min.ensures in
    place-within p c.args.bytes.now c.args.from c.min.result c.args.to (omega (arith, least, c.loop-at.invariant.from)) (omega (arith, least)) (omega (arith, c.requires.inside))
    (λ k high below. chunk-fails p c.args.bytes.now c.args.from c.loop-at.at 16 c.in-Some.passed (omega arith) c.in-Some.ensures.value c.loop-at.invariant.passed k high (omega (arith, least)))
    (returns-in-Some-clause-here g c)

pub loop-at-preserved : goal.loop-at-preserved
loop-at-preserved g c = record {
  from = omega (arith, c.loop-at.invariant.from);
  within = omega arith;
  passed = λ k high low. chunk-fails (g.S.LaneSet.has c.args.set.now) c.args.bytes.now c.args.from c.loop-at.at 16 16 (omega arith) (sym (c.in_default.ensures.none refl)) c.loop-at.invariant.passed k high low;
}

pub returns-clause-value : goal.returns-clause-value
returns-clause-value g c =
    place-within (g.S.LaneSet.has c.args.set.now) c.args.bytes.now c.args.from c.args.to c.args.to c.requires.ordered (omega arith) c.requires.inside
    (λ k high low. c.loop-at.invariant.passed k high (omega arith)) (λ low. absurd (omega arith))
