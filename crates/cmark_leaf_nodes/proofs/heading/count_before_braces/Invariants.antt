use Rattle.std.proofs.Common.{◌≡◌, ◌<◌, true, length, drop}
use Rattle.cmark_grammar.specs.Attributes.{closes}
use Rattle.cmark_leaf_nodes.proofs.heading.count_before_braces.Given as goal

abbrev pub invariant-loop-at : goal.invariant-loop-at
invariant-loop-at l = (l.at < length l.bytes) × (closes (λ b. b) (drop l.at l.bytes) ≡ true)

abbrev pub decreases-loop-at : goal.decreases-loop-at
decreases-loop-at l = l.at
