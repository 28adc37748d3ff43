use Rattle.std.proofs.Common.{◌≡◌, ◌≤◌, ◌<◌, ◌+◌, ◌-◌, drop, get_or, length, None, false}
use Rattle.cmark_grammar.specs.CodeSpans.{is_backtick}
use Rattle.cmark_span_scan.specs.Backticks.{AreListed, AreReal, runs_in}
use Rattle.cmark_span_scan.proofs.backtick_runs.BacktickRuns.list.Given as goal

abbrev pub invariant-loop-found : goal.invariant-loop-found
invariant-loop-found l = record {
  within : l.at ≤ length l.bytes;
  none : l.self.from ≡ None;
  order : l.from ≤ l.at;
  stops : l.from < l.at → is_backtick (get_or l.bytes l.at 0) ≡ false;
  grows : l.fn.self.visited ≤ l.self.visited;
  visited : l.self.visited + runs_in false (drop l.at l.bytes) ≡ l.fn.self.visited + runs_in false (drop l.from l.bytes);
  real : AreReal l.bytes l.self.last.items l.from;
  listed : AreListed l.bytes l.self.last.items l.from l.at;
}

abbrev pub decreases-loop-found : goal.decreases-loop-found
decreases-loop-found l = length l.bytes - l.at
