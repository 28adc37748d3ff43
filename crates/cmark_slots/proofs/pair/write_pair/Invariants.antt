use Rattle.std.proofs.Common.{◌≤◌}
use Rattle.cmark_emphasis.specs.Shown.{shown_pair}
use Rattle.cmark_grammar.specs.Emphasis.{kinds_of}
use Rattle.cmark_values.specs.Shown.{shown_options}
use Rattle.cmark_slots.specs.PairSlots.{spans_around, spans_of_pair}
use Rattle.cmark_slots.proofs.SpanSlots.{WritesOn}
use Rattle.cmark_slots.proofs.pair.write_pair.Given as goal

abbrev pub invariant-loop-left : goal.invariant-loop-left
invariant-loop-left l = (l.left ≤ l.from) × WritesOn (shown_options l.options) (spans_of_pair (shown_pair l.pair)) (spans_around (kinds_of l.pair.delimiter l.left) l.from l.to) l.initial.slots.items l.slots.items

abbrev pub decreases-loop-left : goal.decreases-loop-left
decreases-loop-left l = l.left
