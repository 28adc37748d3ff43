use Rattle.std.proofs.Common.{◌≡◌, ◌≤◌, ◌<◌, ℕ, true, get_or}
use Rattle.cmark_grammar.specs.Columns.{is_blank_byte}
use Rattle.std.specs.Str.{IsCharBoundary}
use Rattle.cmark_inline.proofs.place.before_blanks.Given as goal

abbrev pub invariant-loop-text_end : goal.invariant-loop-text_end
invariant-loop-text_end l = (l.here.pending ≤ l.text_end) × (l.text_end ≤ l.here.at) × (l.bytes ≡ l.text) × IsCharBoundary l.text l.text_end × ((k : ℕ) → l.text_end ≤ k → k < l.here.at → is_blank_byte (get_or l.text k 0) ≡ true)

abbrev pub decreases-loop-text_end : goal.decreases-loop-text_end
decreases-loop-text_end l = l.text_end
