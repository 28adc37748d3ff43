use Rattle.std.proofs.Common.{refl, ap, ◌∙◌}
use Rattle.cmark_block_model.specs.BlockPass.{block_begun}
use Rattle.cmark_block_model.specs.OpenBlocks as model
use Rattle.cmark_blocks.specs.declared.state.OpenLeaf.TheVariants as leaf
use Rattle.cmark_blocks.proofs.RunSteps.{runs-leaf, none_after_closed}
use Rattle.cmark_blocks.specs.Runs.{state_of}
use Rattle.cmark_blocks.proofs.state.Pass.begin_definition.Goals as goal

pub returns-clause-runs : goal.returns-clause-runs
returns-clause-runs g c text options lookup m runs =
    let replacement = g.E.EntityLookup.replacement in
    let kept = c.in_ok-keep_definition.ensures.runs text options lookup (block_begun m) (c.begin_block.ensures.runs text options lookup m runs) in
    runs-leaf replacement text options lookup _ (state_of c.keep_definition.new.self) (leaf.Definition c.args.more) (model.InDefinition c.args.more) kept
    (refl, ap (λ b. b.items) (c.in_ok-keep_definition.ensures.blank_lines ∙ c.begin_block.ensures.others.blank_lines) ∙ none_after_closed replacement text options lookup m (state_of c.args.self.now) c.requires.closed runs)
