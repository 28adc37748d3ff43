use Rattle.std.proofs.Common.{◌≡◌, ◌≤◌, ◌<◌, ◌-◌, ℕ, length, get_or}
use Rattle.cmark_inline.proofs.place.run_end.Given as goal

abbrev pub invariant-loop-end : goal.invariant-loop-end
invariant-loop-end l = (l.at < l.end) × (l.end ≤ length l.bytes) × (l.bytes ≡ l.text) × (l.byte < 128) × (get_or l.bytes (l.end - 1) 0 ≡ l.byte) × ((k : ℕ) → l.at ≤ k → k < l.end → get_or l.bytes k 0 < 128) × ((k : ℕ) → l.at ≤ k → k < l.end → get_or l.bytes k 0 ≡ l.byte)

abbrev pub decreases-loop-end : goal.decreases-loop-end
decreases-loop-end l = length l.bytes - l.end
