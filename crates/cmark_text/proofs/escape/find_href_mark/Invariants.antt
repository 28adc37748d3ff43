use Rattle.std.proofs.Common.{◌≡◌, ℕ, ◌<◌, ◌≤◌, false, slice_index}
use Rattle.cmark_text.specs.Marks.{is_href_mark}
use Rattle.cmark_text.proofs.escape.find_href_mark.Given as goal

abbrev pub invariant-loop-at : goal.invariant-loop-at
invariant-loop-at l = (k : ℕ) → l.from ≤ k → k < l.at → is_href_mark (slice_index l.url k) ≡ false
