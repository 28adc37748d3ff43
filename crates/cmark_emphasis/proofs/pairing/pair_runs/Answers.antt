use Rattle.std.proofs.Common.{[], ◌++◌, length, arith, map, sym, ap, ◌∙◌, subst}
use Rattle.cmark_grammar.specs.Emphasis.{Run}
use Rattle.cmark_emphasis.specs.Bottoms.{AreBottoms, active_runs}
use Rattle.cmark_emphasis.specs.Least.{AreStanding, HasSought, least_examined}
use Rattle.cmark_emphasis.specs.Shown.{shown_pair, shown_placed, shown_run, open_runs}
use Rattle.cmark_emphasis.specs.Stack.{course_from, pair_all}
use Rattle.cmark_emphasis.proofs.Bridge.{pairs_end}
use Rattle.cmark_emphasis.proofs.Counting.{opener-pays, total-within}
use Rattle.cmark_emphasis.proofs.LeastSteps.{end-least, round-least, standing-none}
use Rattle.cmark_emphasis.proofs.Noted.{opener_bottoms}
use Rattle.cmark_emphasis.proofs.Stacks.{open-opener, round}
use Rattle.cmark_emphasis.proofs.pairing.pair_runs.Goals as goal

pub loop-placed-preserved : goal.loop-placed-preserved
loop-placed-preserved c = record {
  stack = c.in_ok-keep_open.ensures.placed;
  bottoms = subst (AreBottoms c.close.new.bottoms) (sym c.in_ok-keep_open.ensures.value) (opener_bottoms c.close.new.bottoms c.close.new.stack.items c.in_ok-rest.rest c.in_ok-rest.ensures.stack.bottom);
  pays =
      let rest = opener-pays c.in_ok-rest.rest c.close.new.stack.items in
      let all = ap length c.in_ok-keep_open.ensures.value in
      omega (arith, c.loop-placed.invariant.pays, c.in_ok-rest.ensures.pays, rest, all);
  least =
      let l = c.loop-placed.invariant.least in
      round-least c.args.runs.now c.loop-placed.placed-index _ l.0 c.args.examined.now c.loop-placed.examined c.close.new.examined (least_examined (map shown_placed c.args.runs.now)) c.close.new.bottoms c.close.new.stack.items c.keep_open.new.stack.items c.in_ok-rest.rest
      c.loop-placed-test.true
      (subst (λ (r : Run). HasSought r l.0 c.loop-placed.examined c.close.new.examined c.close.new.bottoms c.close.new.stack.items (shown_run c.in_ok-rest.rest)) c.whole_run.ensures.value (c.in_ok-rest.ensures.least l.0 l.1)) c.in_ok-rest.ensures.stack.bottom c.in_ok-keep_open.ensures.value l.2;
  pairs =
      round c.args.runs.now c.loop-placed.placed-index _ (active_runs c.loop-placed.bottoms.inactive_below c.loop-placed.stack.items) c.loop-placed.pairs.items c.close.new.pairs.items (shown_run c.in_ok-rest.rest)
      (open_runs (active_runs c.close.new.bottoms.inactive_below c.close.new.stack.items)) _ _ c.loop-placed-test.true
      (ap (λ (r : Run). course_from r (active_runs c.loop-placed.bottoms.inactive_below c.loop-placed.stack.items) c.loop-placed.pairs.items) (sym c.whole_run.ensures.value) ∙ c.in_ok-rest.ensures.value)
      (ap (λ l. open_runs (active_runs c.close.new.bottoms.inactive_below l)) c.in_ok-keep_open.ensures.value ∙ open-opener c.close.new.bottoms.inactive_below c.close.new.stack.items c.in_ok-rest.rest c.in_ok-rest.ensures.stack.bottom.inactive_below) c.loop-placed.invariant.pairs;
}

pub returns-clause-value : goal.returns-clause-value
returns-clause-value c siblings are = pairs_end siblings c.args.runs.now c.loop-placed.placed-index (open_runs (active_runs c.loop-placed.bottoms.inactive_below c.loop-placed.stack.items)) _ _ c.loop-placed-test.false c.loop-placed.invariant.pairs are

pub close-requires-clause-room : goal.close-requires-clause-room
close-requires-clause-room c =
    let most = total-within c.loop-placed.bottoms c.loop-placed.stack.items c.loop-placed.invariant.bottoms in
    omega (arith, c.requires.room, c.loop-placed.invariant.pays, most, c.loop-placed-test.true, c.loop-placed.stack.ok)

pub returns-in_err-rest-clause-few : goal.returns-in_err-rest-clause-few
returns-in_err-rest-clause-few c = omega (arith, c.loop-placed.invariant.pays, c.in_err-rest.ensures.counts, c.loop-placed-test.true)

pub returns-in_err-keep_open-clause-few : goal.returns-in_err-keep_open-clause-few
returns-in_err-keep_open-clause-few c = omega (arith, c.loop-placed.invariant.pays, c.in_ok-rest.ensures.counts, c.loop-placed-test.true)

pub returns-clause-few : goal.returns-clause-few
returns-clause-few c =
    let most = total-within c.loop-placed.bottoms c.loop-placed.stack.items c.loop-placed.invariant.bottoms in
    omega (arith, c.loop-placed.invariant.pays, most, c.loop-placed.auto.placed-index-end)

pub returns-clause-least : goal.returns-clause-least
returns-clause-least c =
    let l = c.loop-placed.invariant.least in
    let none = end-least c.args.runs.now c.loop-placed.placed-index l.0 c.loop-placed-test.false in
    let w = l.2 in
    omega (arith, w, none)

pub loop-placed-init : goal.loop-placed-init
loop-placed-init c =
    let none = c.clear.ensures.items in
    let size = ap length none in
    record {
      stack = λ k d lt. absurd (omega (arith, lt, size));
      bottoms = subst (AreBottoms c.new-bottoms.result) (sym none) c.new-bottoms.ensures.bottoms;
      pays = (let total = c.new-bottoms.ensures.total in omega (arith, size, total));
      least = ([], subst (λ l. AreStanding c.new-bottoms.result l []) (sym none) (standing-none c.new-bottoms.result c.new-bottoms.ensures.bottoms), omega arith);
      pairs = ap (λ l. map shown_pair c.args.pairs.now.items ++ pair_all (map shown_placed c.args.runs.now) (open_runs (active_runs c.new-bottoms.result.inactive_below l))) none;
    }
