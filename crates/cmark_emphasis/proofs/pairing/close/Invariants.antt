use Rattle.std.proofs.Common.{◌≡◌, ◌+◌, ◌*◌, ◌≤◌, All, List, length, vec_len}
use Rattle.cmark_emphasis.specs.Shown.{shown_run, IsPlaced}
use Rattle.cmark_emphasis.specs.Bottoms.{AreBottoms, active_runs}
use Rattle.cmark_emphasis.specs.Counts.{IsKnown, put_back, total_of}
use Rattle.cmark_emphasis.specs.Least.{AreStanding, Standing}
use Rattle.cmark_emphasis.specs.Stack.{course_from}
use Rattle.cmark_emphasis.proofs.LeastSteps.{IsSeeking}
use Rattle.cmark_emphasis.proofs.pairing.close.Given as goal

abbrev pub invariant-loop-found : goal.invariant-loop-found
invariant-loop-found l = record {
  stack : All IsPlaced l.stack.items;
  closer : IsPlaced l.closer;
  known : IsKnown l.closer;
  pays : l.examined + 15 * length l.stack.items + total_of l.fn.bottoms ≤ l.fn.examined + 15 * length l.fn.stack.items + total_of l.bottoms + put_back l.closer.left;
  seeks : (standing : List Standing) → AreStanding l.fn.bottoms l.fn.stack.items standing → IsSeeking (shown_run l.fn.run) standing l.fn.examined l.bottoms l.stack.items (shown_run l.closer) l.examined;
  bottoms : AreBottoms l.bottoms l.stack.items;
  course : course_from (shown_run l.closer) (active_runs l.bottoms.inactive_below l.stack.items) l.pairs.items ≡ course_from (shown_run l.initial.closer) (active_runs l.initial.bottoms.inactive_below l.initial.stack.items) l.initial.pairs.items;
}

abbrev pub decreases-loop-found : goal.decreases-loop-found
decreases-loop-found l = vec_len l.stack + l.closer.left
