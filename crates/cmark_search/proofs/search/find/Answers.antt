use Rattle.std.proofs.Common.{◌≡◌, ◌<◌, ◌+◌, ◌-◌, ℕ, false, length, slice_index, refl, sym, arith}
use Rattle.cmark_search.proofs.Sets.{step-fails, step-place}
use Rattle.cmark_search.proofs.search.find.Goals.{then-at-last+in_default-first_from-2, else-at-last}
use Rattle.cmark_search.proofs.search.find.Goals as goal

pub returns-in-Some-clause-value : goal.returns-in-Some-clause-value
returns-in-Some-clause-value g c =
    step-place (g.S.LaneSet.has c.args.set.now) c.args.bytes.now c.loop-at.at c.in-Some.passed (omega arith) c.in-Some.ensures.value c.loop-at.invariant.passed (λ none. absurd (omega (arith, c.in-Some.ensures.small)))

pub returns-in-Some-first_from-clause-value : goal.returns-in-Some-first_from-clause-value
returns-in-Some-first_from-clause-value g c =
    let passed : (k : ℕ) → k < c.loop-at.at + 16 → g.S.LaneSet.has c.args.set.now (slice_index c.args.bytes.now k) ≡ false =
    λ k low. step-fails (g.S.LaneSet.has c.args.set.now) c.args.bytes.now c.loop-at.at 16 (omega arith) (sym (c.in_default.ensures.none refl)) c.loop-at.invariant.passed k low in
    step-place (g.S.LaneSet.has c.args.set.now) c.args.bytes.now (c.loop-at.at + 16) c.in-Some-first_from.passed (omega arith) c.in-Some-first_from.ensures.value passed (λ none. absurd (omega (arith, c.in-Some-first_from.ensures.small)))

pub loop-at-preserved : goal.loop-at-preserved
loop-at-preserved g c =
    let passed : (k : ℕ) → k < c.loop-at.at + 16 → g.S.LaneSet.has c.args.set.now (slice_index c.args.bytes.now k) ≡ false =
    λ k low. step-fails (g.S.LaneSet.has c.args.set.now) c.args.bytes.now c.loop-at.at 16 (omega arith) (sym (c.in_default.ensures.none refl)) c.loop-at.invariant.passed k low in
    record {
      within = omega arith;
      passed = λ k low. step-fails (g.S.LaneSet.has c.args.set.now) c.args.bytes.now (c.loop-at.at + 16) 16 (omega arith) (sym (c.in_default-first_from.ensures.none refl)) passed k (omega arith);
    }

pub returns-in-Some-first_from-2-clause-value : goal.returns-in-Some-first_from-2-clause-value
returns-in-Some-first_from-2-clause-value g c =
    step-place (g.S.LaneSet.has c.args.set.now) c.args.bytes.now c.loop-at.at c.in-Some-first_from-2.passed (omega arith) c.in-Some-first_from-2.ensures.value c.loop-at.invariant.passed
    (λ none. absurd (omega (arith, c.in-Some-first_from-2.ensures.small)))

pub returns-clause-value : goal.returns-clause-value
returns-clause-value g c =
    let step = c.bytes_before in
    let passed : (k : ℕ) → k < length c.args.bytes.now - 16 → g.S.LaneSet.has c.args.set.now (slice_index c.args.bytes.now k) ≡ false =
    elim c.if-at-last.branch [
      | then-at-last+in_default-first_from-2 w ↦
          λ k low. step-fails (g.S.LaneSet.has c.args.set.now) c.args.bytes.now c.loop-at.at 16 (omega arith) (sym (w.in_default-first_from-2.ensures.none refl)) c.loop-at.invariant.passed k (omega (arith, low))
      | else-at-last w ↦ λ k low. c.loop-at.invariant.passed k (omega (arith, low))
    ] in
    step-place (g.S.LaneSet.has c.args.set.now) c.args.bytes.now (length c.args.bytes.now - 16) step.result (omega arith) step.ensures.value passed (λ none. omega arith)
