use Rattle.std.proofs.Common.{◌≡◌, ◌++◌, ◌+◌, ◌*◌, ◌≤◌, List, length, All}
use Rattle.std.specs.Prelude.{drop, map}
use Rattle.cmark_emphasis.specs.Shown.{shown_placed, shown_pair, open_runs, IsPlaced}
use Rattle.cmark_emphasis.specs.Bottoms.{AreBottoms, active_runs}
use Rattle.cmark_emphasis.specs.Counts.{total_of}
use Rattle.cmark_emphasis.specs.Least.{AreStanding, Standing, least_examined, least_from}
use Rattle.cmark_emphasis.specs.Stack.{pair_all, run_pairs}
use Rattle.cmark_emphasis.proofs.pairing.pair_runs.Given as goal

abbrev pub invariant-loop-placed : goal.invariant-loop-placed
invariant-loop-placed l = record {
  stack : All IsPlaced l.stack.items;
  bottoms : AreBottoms l.bottoms l.stack.items;
  pays : l.examined + 15 * length l.stack.items ≤ l.fn.examined + 15 * l.placed-index + total_of l.bottoms;
  least : (now : List Standing) × AreStanding l.bottoms l.stack.items now × (l.fn.examined + least_examined (map shown_placed l.runs) ≤ l.examined + least_from (map shown_placed (drop l.placed-index l.runs)) now);
  pairs : map shown_pair l.pairs.items ++ pair_all (map shown_placed (drop l.placed-index l.runs)) (open_runs (active_runs l.bottoms.inactive_below l.stack.items)) ≡ map shown_pair l.initial.pairs.items ++ run_pairs (map shown_placed l.runs);
}
