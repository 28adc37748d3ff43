use Rattle.std.proofs.Common.{None, refl, ap, ◌∙◌, subst}
use Rattle.cmark_grammar.specs.BlockDocument.{MetadataBlock}
use Rattle.cmark_values.specs.Shown.{shown_metadata_block_kind}
use Rattle.cmark_block_model.specs.BlockPass.{block_begun}
use Rattle.cmark_block_model.specs.Drawing.{opened}
use Rattle.cmark_block_model.specs.OpenBlocks as model
use Rattle.cmark_builder.specs.Drawn.{Draws}
use Rattle.cmark_builder.proofs.DrawnSteps.{draws-open}
use Rattle.cmark_blocks.specs.declared.state.OpenLeaf.TheVariants as leaf
use Rattle.cmark_blocks.proofs.RunSteps.{runs-builder, runs-leaf, none_after_closed}
use Rattle.cmark_blocks.specs.Runs.{state_of}
use Rattle.cmark_blocks.proofs.state.Pass.begin_metadata.Goals as goal
use Rattle.cmark_items.specs.Tables.{defined}

pub returns-clause-runs : goal.returns-clause-runs
returns-clause-runs g c more text options lookup m ahead runs =
    let replacement = g.E.EntityLookup.replacement in
    let before = c.begin_block.new.self in
    let p = block_begun m in
    let kind = MetadataBlock (shown_metadata_block_kind c.args.kind) in
    let r = c.begin_block.ensures.runs text options lookup m runs in
    let draws = subst (λ at. Draws text c.open.new.self (opened at kind p.drawing)) c.words_begin.ensures.place
    (draws-open text before.builder c.open.new.self c.words_begin.result _ kind p.drawing c.in_ok-open.ensures.ok c.in_ok-open.ensures.tables refl r.drawing) in
    runs-leaf replacement text options lookup _ _ (leaf.Metadata c.args.kind None) (model.InMetadata (shown_metadata_block_kind c.args.kind) None)
    (runs-builder replacement text options lookup p (state_of before) c.open.new.self _ r draws (ap defined c.in_ok-open.ensures.tables))
    (refl, ap (λ b. b.items) c.begin_block.ensures.others.blank_lines ∙ none_after_closed replacement text options lookup m (state_of c.args.self.now) c.requires.closed runs)
