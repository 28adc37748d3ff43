use Rattle.std.specs.Prelude.{drop, map}
use Rattle.cmark_emphasis.specs.Shown.{shown_pair}
use Rattle.cmark_values.specs.Shown.{shown_options}
use Rattle.cmark_slots.specs.PairSlots.{AreOpen, spans_of_pairs}
use Rattle.cmark_slots.proofs.SpanSlots.{WritesOn}
use Rattle.cmark_slots.proofs.pair.write_pairs.Given as goal

abbrev pub invariant-loop-pair : goal.invariant-loop-pair
invariant-loop-pair l = AreOpen (map shown_pair (drop l.pair-index l.pairs)) × WritesOn (shown_options l.options) (spans_of_pairs (map shown_pair l.pairs)) (spans_of_pairs (map shown_pair (drop l.pair-index l.pairs))) l.initial.slots.items l.slots.items
