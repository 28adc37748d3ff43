use Rattle.std.proofs.Common.{◌≡◌, ◌≤◌, ◌<◌, ℕ, get_or}
use Rattle.std.specs.Prelude.{min}
use Rattle.cmark_emphasis.proofs.bottom.OpenersBottom.lower.Given as goal

abbrev pub invariant-loop-class : goal.invariant-loop-class
invariant-loop-class l = record {
  inactive_below : l.self.inactive_below ≡ l.initial.self.inactive_below;
  lowered : (k : ℕ) → k < l.class → get_or l.self.heights k 0 ≡ min (get_or l.initial.self.heights k 0) l.height;
  others : (k : ℕ) → l.class ≤ k → get_or l.self.heights k 0 ≡ get_or l.initial.self.heights k 0;
}
