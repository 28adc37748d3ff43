use Rattle.std.proofs.Common.{ap, arith, false}
use Rattle.cmark_scan_bytes.proofs.Lists.{rest_of}
use Rattle.cmark_span_scan.specs.Backticks.{runs_in}
use Rattle.cmark_span_scan.proofs.Visited.{run-next, run-none, runs-few}
use Rattle.cmark_span_scan.proofs.CodeSteps.{run_back, run_found, run_size, run_passed, run_missing}
use Rattle.cmark_span_scan.proofs.code.find_run.Goals as goal

pub returns-then-count-size-clause-value : goal.returns-then-count-size-clause-value
returns-then-count-size-clause-value c =
    run_found c.args.size _ c.args.bytes.now c.loop-at.rest.now _ c.in-Some.at c.in-Some.ensures (rest_of c.loop-at.rest.now c.in-Some.at) c.loop-at.invariant.reads c.backticks-count.result c.backticks-count.ensures.value c.if-count-size.true

pub returns-then-count-size-clause-run : goal.returns-then-count-size-clause-run
returns-then-count-size-clause-run c =
    run_size c.args.size _ c.args.bytes.now c.loop-at.rest.now _ c.in-Some.at c.in-Some.ensures (rest_of c.loop-at.rest.now c.in-Some.at) c.loop-at.invariant.reads c.backticks-count.result c.backticks-count.ensures.value c.if-count-size.true

pub loop-at-preserved : goal.loop-at-preserved
loop-at-preserved c = record {
  reads =
      run_passed c.args.size _ c.args.bytes.now c.loop-at.rest.now _ c.in-Some.at c.in-Some.ensures (rest_of c.loop-at.rest.now c.in-Some.at) c.loop-at.invariant.reads c.backticks-count.result _ c.backticks-count.ensures.value
      c.if-count-size.false (rest_of _ c.backticks-count.result);
  visited =
      let next = (run-next c.loop-at.rest.now _ _ c.in-Some.at c.backticks-count.result c.in-Some.ensures (rest_of c.loop-at.rest.now c.in-Some.at) c.backticks-count.ensures.value (rest_of _ c.backticks-count.result)).0 in
      omega (arith, next, c.loop-at.invariant.visited);
  more = omega (arith, c.loop-at.invariant.more);
}

pub returns-clause-value : goal.returns-clause-value
returns-clause-value c = run_missing c.args.size _ c.args.bytes.now c.loop-at.rest.now c.in_default.ensures c.loop-at.invariant.reads

pub overflow_add-visited : goal.overflow_add-visited
overflow_add-visited c =
    let few = runs-few false c.args.bytes.now in
    let next = (run-next c.loop-at.rest.now _ _ c.in-Some.at c.backticks-count.result c.in-Some.ensures (rest_of c.loop-at.rest.now c.in-Some.at) c.backticks-count.ensures.value (rest_of _ c.backticks-count.result)).0 in
    omega (arith, few, next, c.loop-at.invariant.visited, c.requires)

pub returns-then-count-size-clause-counts : goal.returns-then-count-size-clause-counts
returns-then-count-size-clause-counts c =
    let rest = rest_of c.loop-at.rest.now c.in-Some.at in
    let front = (run-next c.loop-at.rest.now _ _ c.in-Some.at c.backticks-count.result c.in-Some.ensures rest c.backticks-count.ensures.value (rest_of _ c.backticks-count.result)).1 in
    let back = ap (runs_in false) (run_back c.args.size _ c.args.bytes.now c.loop-at.rest.now _ c.in-Some.at c.in-Some.ensures rest c.loop-at.invariant.reads) in
    omega (arith, front, back, c.loop-at.invariant.visited)

pub returns-clause-counts : goal.returns-clause-counts
returns-clause-counts c = let none = run-none c.loop-at.rest.now c.in_default.ensures in omega (arith, none, c.loop-at.invariant.visited)
