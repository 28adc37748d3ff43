use Rattle.std.proofs.Common.{◌≡◌, ◌-◌, ℕ, false, List, get_or, sym, ap, ◌∙◌, arith}
use Rattle.std.proofs.lemmas.Bool.{ne_eqb}
use Rattle.cmark_grammar.specs.CodeSpans.{is_backtick}
use Rattle.cmark_slots.specs.Slots.{before_backticks}
use Rattle.cmark_slots.proofs.Backticks.{before-step, before-stop}
use Rattle.cmark_slots.proofs.text.before_backticks.Goals as goal

pub loop-at-preserved : goal.loop-at-preserved
loop-at-preserved c =
    let text : List ℕ = c.args.text.now in
    let same = ap (λ (bs : List ℕ). get_or bs (c.loop-at.at - 1) 0) c.as_bytes-bytes.ensures.value in
    record {
      within = let w = c.loop-at.invariant.within in omega (arith, w);
      value = before-step text c.loop-at.at c.loop-at-test.true (ap is_backtick (sym same ∙ c.if-bytes-at-eq96.true)) ∙ c.loop-at.invariant.value;
    }

pub returns-after-loop-at : goal.returns-after-loop-at
returns-after-loop-at c =
    let none : c.loop-at.at ≡ 0 = let f = c.loop-at-test.false in omega (arith, f) in
    sym (ap (before_backticks c.args.text.now) none ∙ sym none) ∙ c.loop-at.invariant.value

pub returns-else-bytes-at-eq96 : goal.returns-else-bytes-at-eq96
returns-else-bytes-at-eq96 c =
    let text : List ℕ = c.args.text.now in
    let same = ap (λ (bs : List ℕ). get_or bs (c.loop-at.at - 1) 0) c.as_bytes-bytes.ensures.value in
    let other : is_backtick (get_or text (c.loop-at.at - 1) 0) ≡ false = ne_eqb (get_or text (c.loop-at.at - 1) 0) 96 (λ q. c.if-bytes-at-eq96.false (same ∙ q)) in
    sym (before-stop text c.loop-at.at other) ∙ c.loop-at.invariant.value
