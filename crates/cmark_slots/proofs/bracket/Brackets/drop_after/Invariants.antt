use Rattle.std.proofs.Common.{◌≤◌, ◌<◌, ℕ, length, get_or}
use Rattle.cmark_slots.specs.declared.bracket.Bracket.{Bracket}
use Rattle.cmark_slots.proofs.bracket.Brackets.drop_after.Given as goal

abbrev pub invariant-loop-count : goal.invariant-loop-count
invariant-loop-count l = record {
  within : l.count ≤ length l.self.standing.items;
  following : (k : ℕ) (d : Bracket) → l.count ≤ k → k < length l.self.standing.items → l.place < (get_or l.self.standing.items k d).inside;
}

abbrev pub decreases-loop-count : goal.decreases-loop-count
decreases-loop-count l = l.count
