use Rattle.std.proofs.Common.{◌≡◌, ◌<◌, ◌≤◌, ◌-◌, length, Some}
use Rattle.std.specs.Prelude.{slice_get}
use Rattle.cmark_leaf_text.specs.declared.stretch.Stretch.{Stretch}
use Rattle.cmark_leaf_text.proofs.leaf_text.LeafText.stretch_at.Given as goal

abbrev pub invariant-loop-high : goal.invariant-loop-high
invariant-loop-high l = record {
  some : l.low < l.high;
  within : l.high ≤ length l.self.stretches.items;
  before : (s : Stretch) → slice_get l.self.stretches.items l.low ≡ Some s → s.at ≤ l.at;
  next : (s : Stretch) → slice_get l.self.stretches.items l.high ≡ Some s → l.at < s.at;
}

abbrev pub decreases-loop-high : goal.decreases-loop-high
decreases-loop-high l = l.high - l.low
