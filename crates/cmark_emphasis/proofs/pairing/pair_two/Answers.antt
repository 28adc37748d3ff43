use Rattle.std.proofs.Common.{arith, ◌≡◌, ◌∷◌, [], sym, ap, ◌∙◌}
use Rattle.cmark_grammar.specs.Emphasis.{Run, pair_of}
use Rattle.cmark_emphasis.specs.Least.{least_examined}
use Rattle.cmark_emphasis.specs.Shown.{shown_placed, shown_run}
use Rattle.cmark_emphasis.specs.Stack.{run_pairs}
use Rattle.cmark_emphasis.proofs.LeastSteps.{two-least}
use Rattle.cmark_emphasis.proofs.FewRuns.{lone_pair, two_pairs, two_runs}
use Rattle.cmark_emphasis.proofs.pairing.pair_two.Goals as goal

-- the runs of the code are those of the grammar
both-are : (one first other second : Run) → one ≡ first → other ≡ second → run_pairs (one ∷ (other ∷ [])) ≡ run_pairs (first ∷ (second ∷ []))
both-are one first other second e f = ap (λ (r : Run). run_pairs (r ∷ (other ∷ []))) e ∙ ap (λ (r : Run). run_pairs (first ∷ (r ∷ []))) f

pub returns-then-not-makes_a_pair-clause-value : goal.returns-then-not-makes_a_pair-clause-value
returns-then-not-makes_a_pair-clause-value c = λ siblings are.
    let one = shown_run c.whole_run-opener.result in
    let other = shown_run c.whole_run-closer.result in
    let none = ap (λ b. lone_pair b (pair_of one other)) (sym c.makes_a_pair.ensures ∙ c.if-not-makes_a_pair.true) in
    two_pairs siblings (shown_placed c.args.first) (shown_placed c.args.second) [] are
    (sym none ∙ sym (two_runs one other) ∙ both-are one (shown_placed c.args.first) other (shown_placed c.args.second) c.whole_run-opener.ensures.value c.whole_run-closer.ensures.value)

pub returns-clause-value : goal.returns-clause-value
returns-clause-value c = λ siblings are.
    let one = shown_run c.whole_run-opener.result in
    let other = shown_run c.whole_run-closer.result in
    let some = ap (λ b. lone_pair b (pair_of one other)) (sym c.makes_a_pair.ensures ∙ c.if-not-makes_a_pair.false) in
    two_pairs siblings (shown_placed c.args.first) (shown_placed c.args.second) _ are
    (ap (λ p. p ∷ []) c.pair_up.ensures ∙ sym some ∙ sym (two_runs one other) ∙ both-are one (shown_placed c.args.first) other (shown_placed c.args.second) c.whole_run-opener.ensures.value c.whole_run-closer.ensures.value)

pub returns-then-not-makes_a_pair-clause-least : goal.returns-then-not-makes_a_pair-clause-least
returns-then-not-makes_a_pair-clause-least c =
    let least = two-least (shown_run c.whole_run-opener.result) (shown_run c.whole_run-closer.result) in
    let first = ap (λ (r : Run). least_examined (r ∷ (shown_run c.whole_run-closer.result ∷ []))) c.whole_run-opener.ensures.value in
    let second = ap (λ (r : Run). least_examined (shown_placed c.args.first ∷ (r ∷ []))) c.whole_run-closer.ensures.value in
    let count = c.count.ensures in
    let size = c.examined_of_two.ensures in
    omega (arith, least, first, second, count, size)

pub returns-clause-least : goal.returns-clause-least
returns-clause-least c =
    let least = two-least (shown_run c.whole_run-opener.result) (shown_run c.whole_run-closer.result) in
    let first = ap (λ (r : Run). least_examined (r ∷ (shown_run c.whole_run-closer.result ∷ []))) c.whole_run-opener.ensures.value in
    let second = ap (λ (r : Run). least_examined (shown_placed c.args.first ∷ (r ∷ []))) c.whole_run-closer.ensures.value in
    let count = c.count.ensures in
    let size = c.examined_of_two.ensures in
    omega (arith, least, first, second, count, size)
