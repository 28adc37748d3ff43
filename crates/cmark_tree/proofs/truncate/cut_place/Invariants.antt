use Rattle.cmark_tree.specs.Forest.{Forest}
use Rattle.cmark_tree.specs.Arena.{Placed}
use Rattle.cmark_tree.specs.Truncated.{IsChildren}
use Rattle.cmark_tree.proofs.Cutting.{SoFar}
use Rattle.cmark_tree.proofs.truncate.cut_place.Given as goal

abbrev pub invariant-loop-step : goal.invariant-loop-step
invariant-loop-step g l =
    (f : Forest (Placed g.row.T.Denot)) → IsChildren l.nodes f l.fn.head → SoFar g.T.TreeSpan.spans l.to f l.cut.kept l.cut.at l._step
