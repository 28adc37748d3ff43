use Rattle.std.proofs.Common.{refl, sym, ap, ◌∙◌, subst}
use Rattle.cmark_block_model.specs.CodeLines.{texts_of, rest_of}
use Rattle.cmark_block_model.specs.Drawing.{Drawing, drawn, closed_at}
use Rattle.cmark_block_model.specs.OpenBlocks as model
use Rattle.cmark_builder.specs.Drawn.{Draws}
use Rattle.cmark_builder.proofs.DrawnSteps.{draws-close}
use Rattle.cmark_leaf_nodes.specs.Stretches.{shown_waits}
use Rattle.cmark_blocks.specs.Runs.{state_of, RunsIn}
use Rattle.cmark_blocks.specs.declared.state.OpenLeaf.TheVariants as leaf
use Rattle.cmark_blocks.proofs.LeafSteps.{verbatim-closes}
use Rattle.cmark_blocks.proofs.RunSteps.{runs-builder, runs-leaf}
use Rattle.cmark_blocks.proofs.state.Pass.close_verbatim.Goals as goal
use Rattle.cmark_items.specs.Tables.{defined}

pub returns-clause-runs : goal.returns-clause-runs
returns-clause-runs g c text options lookup m runs =
    let replacement = g.E.EntityLookup.replacement in
    let before = c.args.self.now in
    let built = c.draw_stretch.new.builder in
    let d : Drawing = drawn (texts_of (rest_of (shown_waits text c.args.waits))) m.drawing in
    let draws = subst (λ e. Draws text c.close.new.self (closed_at e d)) runs.line_end
    (draws-close text built c.close.new.self before.line_end d c.close.ensures.closed c.close.ensures.none c.close.ensures.tables (c.in_ok-draw_stretch.ensures.drawn text m.drawing runs.drawing)) in
    let closes = verbatim-closes text options lookup before.leaf c.args.waits before.blank_lines.items m.leaf m c.requires.is runs.leaf in
    subst (λ p. RunsIn replacement text options lookup p (record (state_of before) { builder = c.close.new.self; leaf = leaf.Closed })) (sym closes.1)
    (runs-leaf replacement text options lookup _ _ leaf.Closed model.Closed
    (runs-builder replacement text options lookup m (state_of before) c.close.new.self (closed_at m.line_end d) runs draws (ap defined c.close.ensures.tables ∙ c.in_ok-draw_stretch.ensures.definitions))
    (refl, closes.0))
