use Rattle.std.proofs.Common.{◌≡◌, ◌≤◌, ◌-◌, length, drop}
use Rattle.cmark_grammar.specs.LinkDefinitions.{after_leading_blanks}
use Rattle.std.specs.Str.{IsCharBoundary}
use Rattle.cmark_inline.proofs.place.after_leading_blanks.Given as goal

abbrev pub invariant-loop-end : goal.invariant-loop-end
invariant-loop-end l = (l.at ≤ l.end) × (l.bytes ≡ l.text) × IsCharBoundary l.text l.end × (after_leading_blanks (drop l.at l.text) ≡ after_leading_blanks (drop l.end l.text))

abbrev pub decreases-loop-end : goal.decreases-loop-end
decreases-loop-end l = length l.bytes - l.end
