use Rattle.std.proofs.Common.{ap, ◌∙◌}
use Rattle.cmark_block_model.specs.BlockPass.{siblings_with_block}
use Rattle.cmark_blocks.proofs.RunSteps.{runs-inner}
use Rattle.cmark_blocks.specs.Runs.{state_of}
use Rattle.cmark_blocks.proofs.state.Pass.begin_block_after_list.Goals as goal

pub returns-clause-runs : goal.returns-clause-runs
returns-clause-runs g c text options lookup m runs =
    let r = c.close_list.ensures.runs text options lookup m runs in
    runs-inner g.E.EntityLookup.replacement text options lookup _ (state_of c.close_list.new.self) c.with_block-self.result _ r (c.with_block-self.ensures ∙ ap siblings_with_block r.inner)
