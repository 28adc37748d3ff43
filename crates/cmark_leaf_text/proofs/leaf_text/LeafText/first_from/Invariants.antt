use Rattle.std.proofs.Common.{ℕ, ◌<◌, ◌≤◌, ◌-◌, length}
use Rattle.cmark_leaf_text.specs.Reads.{text_of, place_of}
use Rattle.cmark_leaf_text.proofs.leaf_text.LeafText.first_from.Given as goal

abbrev pub invariant-loop-low : goal.invariant-loop-low
invariant-loop-low l = record {
  ordered : l.low ≤ l.high;
  within : l.high ≤ length (text_of l.self);
  before : (k : ℕ) → k < l.low → place_of l.self k < l.place;
  following : (k : ℕ) → l.high ≤ k → k < length (text_of l.self) → l.place ≤ place_of l.self k;
}

abbrev pub decreases-loop-low : goal.decreases-loop-low
decreases-loop-low l = l.high - l.low
