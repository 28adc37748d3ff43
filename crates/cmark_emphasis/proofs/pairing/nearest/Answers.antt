use Rattle.std.proofs.Common.{◌≡◌, sym, ap, ◌∙◌, ◌+◌, ◌-◌, ◌≤◌, length, true, if◌then◌else◌, subst, arith}
use Rattle.cmark_emphasis.specs.Bottoms.{bottom_of}
use Rattle.cmark_emphasis.specs.Counts.{searches}
use Rattle.cmark_emphasis.specs.Shown.{shown_run}
use Rattle.cmark_emphasis.proofs.Counting.{searching}
use Rattle.cmark_emphasis.proofs.Stacks.{above_inactive, found_at, passed_at, none_left, empty-agree, unclosing-agree}
use Rattle.cmark_emphasis.proofs.pairing.nearest.Goals as goal

pub returns-then-not-closer-clause-value : goal.returns-then-not-closer-clause-value
returns-then-not-closer-clause-value c = unclosing-agree _ _ c.if-not-closer.true

pub returns-then-closer-eq0-clause-value : goal.returns-then-closer-eq0-clause-value
returns-then-closer-eq0-clause-value c = empty-agree _ _ c.if-closer-eq0.true

pub returns-then-can_close-clause-value : goal.returns-then-can_close-clause-value
returns-then-can_close-clause-value c =
    let i = c.loop-i.invariant.passed in
    found_at (shown_run c.args.closer) c.args.bottoms.now.inactive_below c.args.stack.now _ i.1 c.loop-i.i _ (omega arith) (omega arith) i.2 i.3 (λ t. above_inactive (shown_run c.args.closer) c.args.bottoms.now _ (subst (λ n. n ≤ c.loop-i.i - 1) c.below-bottom.ensures (omega (arith, c.loop-i-test.true))) t) (sym c.can_close.ensures ∙ c.if-can_close.true)

pub loop-i-preserved : goal.loop-i-preserved
loop-i-preserved c =
    let i = c.loop-i.invariant.passed in
    let r = passed_at (shown_run c.args.closer) c.args.bottoms.now.inactive_below c.args.stack.now _ i.1 c.loop-i.i (c.loop-i.i - 1) (omega arith) (omega arith) i.2 i.3 (sym c.can_close.ensures ∙ c.if-can_close.false) in
    record {
      passed = (omega arith, r.0, r.1, r.2);
      examined = c.loop-i.invariant.examined;
      low = omega (arith, c.loop-i-test.true);
    }

pub returns-clause-value : goal.returns-clause-value
returns-clause-value c =
    let i = c.loop-i.invariant.passed in
    none_left (shown_run c.args.closer) c.args.bottoms.now c.args.stack.now i.1 c.loop-i.i c.requires.bottoms i.0 (subst (λ n. c.loop-i.i ≤ n) c.below-bottom.ensures c.loop-i-test.false) i.2 i.3

pub count-requires : goal.count-requires
count-requires c = omega (arith, c.requires.room, c.loop-i.invariant.examined)

pub count-requires-2 : goal.count-requires-2
count-requires-2 c = omega (arith, c.requires.room, c.loop-i.invariant.examined)

pub returns-then-can_close-clause-counts : goal.returns-then-can_close-clause-counts
returns-then-can_close-clause-counts c = omega (arith, c.count.ensures, c.loop-i.invariant.examined)

pub returns-clause-counts : goal.returns-clause-counts
returns-clause-counts c =
    let low : c.below-bottom.result ≡ bottom_of c.args.bottoms.now (shown_run c.args.closer) = c.below-bottom.ensures in
    let on : searches (shown_run c.args.closer) ≡ true = searching (shown_run c.args.closer) c.if-not-closer.false (omega (arith, c.if-closer-eq0.false)) in
    let is : length c.args.stack.now - c.loop-i.i ≡ length c.args.stack.now - bottom_of c.args.bottoms.now (shown_run c.args.closer) = omega (arith, c.loop-i.invariant.low, c.loop-i-test.false, low) in
    c.count-2.ensures ∙ ap (λ n. n + (length c.args.stack.now - c.loop-i.i)) c.loop-i.invariant.examined ∙ ap (λ n. c.args.examined.now + n) (is ∙ sym (ap (λ b. if b then length c.args.stack.now - bottom_of c.args.bottoms.now (shown_run c.args.closer) else 0) on))
