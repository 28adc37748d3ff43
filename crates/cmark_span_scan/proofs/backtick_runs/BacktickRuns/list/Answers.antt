use Rattle.std.proofs.Common.{◌∙◌, ◌+◌, ap, sym, subst, drop, false, length, length-drop, arith}
use Rattle.std.proofs.lemmas.Grind.{common_steps}
use Rattle.cmark_scan_bytes.proofs.Lists.{rest_of}
use Rattle.cmark_span_scan.specs.Backticks.{AreRunsFrom, runs_in}
use Rattle.cmark_span_scan.proofs.Listed.{listed_next, listed_end}
use Rattle.cmark_span_scan.proofs.Visited.{list-few, list-next, real-next, run-none, runs-few, stops-next}
use Rattle.cmark_span_scan.proofs.backtick_runs.BacktickRuns.list.Goals as goal

pub loop-found-preserved : goal.loop-found-preserved
loop-found-preserved c = record {
  within =
      let rest = ap length (rest_of c.as_bytes-bytes.result.now c.loop-found.at) ∙ length-drop c.loop-found.at c.as_bytes-bytes.result.now in
      let run = ap length (rest_of c.as_bytes-bytes.result.now (c.loop-found.at + c.in-Some.found)) ∙ length-drop (c.loop-found.at + c.in-Some.found) c.as_bytes-bytes.result.now in
      omega (arith, rest, run, c.in-Some.ensures.0.high, c.backticks-size.ensures.within, c.loop-found.invariant.within);
  none = c.loop-found.invariant.none;
  order = omega (arith, c.loop-found.invariant.order);
  stops = λ later. stops-next c.as_bytes-bytes.result.now _ (c.loop-found.at + c.in-Some.found) c.backticks-size.result (rest_of c.as_bytes-bytes.result.now (c.loop-found.at + c.in-Some.found)) c.backticks-size.ensures.value;
  grows = omega (arith, c.loop-found.invariant.grows);
  visited =
      let next = list-next c.as_bytes-bytes.result.now _ _ c.loop-found.at c.in-Some.found c.backticks-size.result (rest_of c.as_bytes-bytes.result.now c.loop-found.at) c.in-Some.ensures (rest_of c.as_bytes-bytes.result.now (c.loop-found.at + c.in-Some.found)) c.backticks-size.ensures.value in
      omega (arith, next, c.loop-found.invariant.visited);
  real =
      real-next c.as_bytes-bytes.result.now c.loop-found.self.last.items _ _ _ c.args.from c.loop-found.at c.in-Some.found c.backticks-size.result (rest_of c.as_bytes-bytes.result.now c.loop-found.at) c.loop-found.invariant.within c.in-Some.ensures
      (rest_of c.as_bytes-bytes.result.now (c.loop-found.at + c.in-Some.found)) c.backticks-size.ensures.value c.loop-found.invariant.stops c.loop-found.invariant.order c.in_ok-add_run.ensures.entries c.loop-found.invariant.real;
  listed =
      listed_next c.as_bytes-bytes.result.now c.loop-found.self.last.items _ _ _ c.args.from c.loop-found.at c.in-Some.found c.backticks-size.result (rest_of c.as_bytes-bytes.result.now c.loop-found.at) c.loop-found.invariant.within c.in-Some.ensures
      (rest_of c.as_bytes-bytes.result.now (c.loop-found.at + c.in-Some.found)) c.backticks-size.ensures.value c.loop-found.invariant.listed c.in_ok-add_run.ensures.added c.in_ok-add_run.ensures.others;
}

pub returns-clause-runs : goal.returns-clause-runs
returns-clause-runs c =
    subst (λ text. AreRunsFrom text c.loop-found.self.last.items c.args.from) c.as_bytes-bytes.ensures.value (record {
      listed = listed_end c.as_bytes-bytes.result.now c.loop-found.self.last.items _ c.args.from c.loop-found.at (rest_of c.as_bytes-bytes.result.now c.loop-found.at) c.in_default.ensures c.loop-found.invariant.listed;
      real = c.loop-found.invariant.real;
    })

pub returns-in_err-add_run-clause-grows : goal.returns-in_err-add_run-clause-grows
returns-in_err-add_run-clause-grows c = omega (arith, c.loop-found.invariant.grows)

pub returns-clause-grows : goal.returns-clause-grows
returns-clause-grows c = c.loop-found.invariant.grows

pub loop-found-smaller : goal.loop-found-smaller
loop-found-smaller c = grind (arith, common_steps)

pub overflow_add-self : goal.overflow_add-self
overflow_add-self c =
    let next = list-next c.as_bytes-bytes.result.now _ _ c.loop-found.at c.in-Some.found c.backticks-size.result (rest_of c.as_bytes-bytes.result.now c.loop-found.at) c.in-Some.ensures (rest_of c.as_bytes-bytes.result.now (c.loop-found.at + c.in-Some.found)) c.backticks-size.ensures.value in
    let few = runs-few false (drop c.args.from c.as_bytes-bytes.result.now) in
    let len = length-drop c.args.from c.as_bytes-bytes.result.now in
    let same = ap length c.as_bytes-bytes.ensures.value in
    omega (arith, next, few, len, same, c.loop-found.invariant.visited, c.requires.room)

pub returns-in_err-add_run-clause-few : goal.returns-in_err-add_run-clause-few
returns-in_err-add_run-clause-few c =
    let next = list-next c.as_bytes-bytes.result.now _ _ c.loop-found.at c.in-Some.found c.backticks-size.result (rest_of c.as_bytes-bytes.result.now c.loop-found.at) c.in-Some.ensures (rest_of c.as_bytes-bytes.result.now (c.loop-found.at + c.in-Some.found)) c.backticks-size.ensures.value in
    let few = runs-few false (drop c.args.from c.as_bytes-bytes.result.now) in
    let len = length-drop c.args.from c.as_bytes-bytes.result.now in
    let same = ap length c.as_bytes-bytes.ensures.value in
    omega (arith, next, few, len, same, c.loop-found.invariant.visited)

pub returns-clause-few : goal.returns-clause-few
returns-clause-few c =
    let few = list-few c.as_bytes-bytes.result.now c.args.from c.args.self.now.visited c.loop-found.self.visited _ c.loop-found.invariant.visited in
    let same = ap length c.as_bytes-bytes.ensures.value in
    omega (arith, few, same)

pub returns-clause-counts : goal.returns-clause-counts
returns-clause-counts c =
    let none = ap (runs_in false) (sym (rest_of c.as_bytes-bytes.result.now c.loop-found.at)) ∙ run-none _ c.in_default.ensures in
    let same = ap (λ l. runs_in false (drop c.args.from l)) c.as_bytes-bytes.ensures.value in
    omega (arith, none, same, c.loop-found.invariant.visited)
