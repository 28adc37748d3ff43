use Rattle.std.proofs.Common.{length, sym, ap, ◌∙◌, arith}
use Rattle.cmark_leaf_nodes.proofs.BraceSteps.{none-before, unclosed, at-opening, at-closing, at-front}
use Rattle.cmark_leaf_nodes.proofs.heading.count_before_braces.Goals.{then-at-eq0-via-then-at-eq0, then-at-eq0-via-else-at-eq0+then-bytes-at-ne125, then-loop-at-test+else-not-is_brace, else-loop-at-test, else-at-gt0-via-then-at-gt0+else-bytes-at-eq123, else-at-gt0-via-else-at-gt0}
use Rattle.cmark_leaf_nodes.proofs.heading.count_before_braces.Goals as goal

pub returns-then-at-eq0-clause-value : goal.returns-then-at-eq0-clause-value
returns-then-at-eq0-clause-value c =
    elim c.then-at-eq0.branch [
      | then-at-eq0-via-then-at-eq0 w ↦ none-before c.args.bytes.now w.if-at-eq0.true
      | then-at-eq0-via-else-at-eq0+then-bytes-at-ne125 w ↦ sym (ap length (unclosed c.args.bytes.now w.if-at-eq0.false w.if-bytes-at-ne125.true))
    ]

pub returns-then-bytes-at-eq123-clause-value : goal.returns-then-bytes-at-eq123-clause-value
returns-then-bytes-at-eq123-clause-value c =
    at-opening c.loop-at.at c.args.bytes.now c.if-at-gt0.true c.loop-at.invariant.0 c.loop-at.invariant.1 c.if-bytes-at-eq123.true

pub returns-else-at-gt0-clause-value : goal.returns-else-at-gt0-clause-value
returns-else-at-gt0-clause-value c =
    elim c.else-at-gt0.branch [
      | else-at-gt0-via-then-at-gt0+else-bytes-at-eq123 w ↦ elim c.loop-at-test.branch [
        | then-loop-at-test+else-not-is_brace t ↦ at-closing c.loop-at.at c.args.bytes.now w.if-at-gt0.true c.loop-at.invariant.0 c.loop-at.invariant.1 (sym t.is_brace.ensures ∙ t.if-not-is_brace.false) w.if-bytes-at-eq123.false
        | else-loop-at-test t ↦ absurd (let a = t.loop-at-test.false in let b = w.if-at-gt0.true in omega (arith, a, b))
      ]
      | else-at-gt0-via-else-at-gt0 w ↦ at-front c.loop-at.at c.args.bytes.now w.if-at-gt0.false c.loop-at.invariant.1
    ]
