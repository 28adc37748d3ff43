use Rattle.std.proofs.Common.{◌≡◌, ◌++◌, ◌-◌, ◌≤◌, length, List}
use Rattle.std.specs.Prelude.{take}
use Rattle.cmark_grammar.specs.Emphasis as grammar
use Rattle.cmark_emphasis.specs.Shown.{shown_run, open_runs}
use Rattle.cmark_emphasis.specs.Bottoms.{active_runs}
use Rattle.cmark_emphasis.specs.Stack.{NoneAgree}
use Rattle.cmark_emphasis.proofs.pairing.nearest.Given as goal

abbrev pub invariant-loop-i : goal.invariant-loop-i
invariant-loop-i l = record {
  passed : (l.i ≤ length l.stack) × (passed : List grammar.Run) × (open_runs (active_runs l.bottoms.inactive_below l.stack) ≡ passed ++ open_runs (active_runs l.bottoms.inactive_below (take l.i l.stack))) × NoneAgree (shown_run l.closer) passed;
  examined : l.examined ≡ l.fn.examined;
  low : length l.stack - l.i ≤ length l.stack - l.bottom;
}

abbrev pub decreases-loop-i : goal.decreases-loop-i
decreases-loop-i l = l.i
