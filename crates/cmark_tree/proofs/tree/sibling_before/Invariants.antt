use Rattle.std.specs.Prelude.{◌≡◌}
use Rattle.cmark_tree.specs.Forest.{Forest, Node, join}
use Rattle.cmark_tree.specs.Arena.{Placed}
use Rattle.cmark_tree.specs.Truncated.{IsChildren}
use Rattle.cmark_tree.proofs.Releasing.{Passed}
use Rattle.cmark_tree.proofs.tree.sibling_before.Given as goal

abbrev pub invariant-loop-step : goal.invariant-loop-step
invariant-loop-step g l =
    (done : Forest (Placed g.row.T.Denot)) (p : Placed g.row.T.Denot) (inside after : Forest (Placed g.row.T.Denot)) → IsChildren l.nodes (join done (Node p inside after)) l.fn.head → p.ix ≡ l.fn.last
    → Passed done p inside after l.before l.at l._step
