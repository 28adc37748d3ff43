use Rattle.std.proofs.Common.{◌≡◌, ◌<◌, ℕ, length, get_or}
use Rattle.cmark_search.specs.Sets.{row_of}
use Rattle.cmark_search.proofs.search.AsciiSet.new.Given as goal

abbrev pub invariant-loop-low : goal.invariant-loop-low
invariant-loop-low l = record {
  made : (k : ℕ) → k < l.low → get_or l.rows k 0 ≡ row_of l.table k;
  size : length l.rows ≡ 16;
}
