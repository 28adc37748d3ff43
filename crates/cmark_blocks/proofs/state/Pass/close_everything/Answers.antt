use Rattle.std.proofs.Common.{[], refl}
use Rattle.cmark_block_model.specs.BlockPass.{leaf_closed, containers_closed}
use Rattle.cmark_blocks.proofs.FeedSteps.{closed-outer}
use Rattle.cmark_blocks.proofs.state.Pass.close_everything.Goals as goal

pub returns : goal.returns
returns g c = record {
  runs = λ text options lookup m runs.
      c.close_list.ensures.runs text options lookup (containers_closed text options lookup [] m.outer (leaf_closed text options lookup m))
      (c.close_containers.ensures.runs text options lookup (leaf_closed text options lookup m) [] m.outer (closed-outer text options lookup m m.leaf) refl (c.in_ok-close_leaf.ensures.runs text options lookup m runs));
}
