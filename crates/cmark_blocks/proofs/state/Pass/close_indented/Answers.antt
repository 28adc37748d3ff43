use Rattle.std.proofs.Common.{map, sym, ap, ◌∙◌, subst}
use Rattle.cmark_block_model.specs.BlockPass.{close_leaf, is_some}
use Rattle.cmark_line_rules.specs.Rests.{row_of}
use Rattle.cmark_block_model.specs.CodeLines.{texts_of, rest_of}
use Rattle.cmark_block_model.specs.Drawing.{Drawing, drawn, closed_at}
use Rattle.cmark_block_model.specs.OpenBlocks as model
use Rattle.cmark_builder.proofs.DrawnSteps.{draws-close}
use Rattle.cmark_leaf_nodes.specs.Stretches.{shown_waits}
use Rattle.cmark_blocks.specs.Runs.{ShowsLeaf, state_of, RunsIn}
use Rattle.cmark_blocks.specs.declared.state.OpenLeaf.TheVariants as leaf
use Rattle.cmark_blocks.proofs.RunSteps.{runs-builder, runs-inner, runs-closed}
use Rattle.cmark_blocks.proofs.state.Pass.close_indented.Goals as goal
use Rattle.cmark_items.specs.Tables.{defined}

pub returns-clause-runs : goal.returns-clause-runs
returns-clause-runs g c text options lookup m runs =
    let replacement = g.E.EntityLookup.replacement in
    let before = c.args.self.now in
    let built = c.draw_stretch.new.builder in
    let d : Drawing = drawn (texts_of (rest_of (shown_waits text c.args.waits))) m.drawing in
    let draws = draws-close text built c.close.new.self c.args.end d c.close.ensures.closed c.close.ensures.none c.close.ensures.tables (c.in_ok-draw_stretch.ensures.drawn text m.drawing runs.drawing) in
    let shows = subst (λ l. ShowsLeaf text l before.blank_lines.items m.leaf) c.requires.is runs.leaf in
    subst (λ l. RunsIn replacement text options lookup (close_leaf text options lookup l m) (record (state_of before) { builder = c.close.new.self; inner = record before.inner { blank = c.has_lines-self.result }; lines = c.clear.new.self.items; leaf = leaf.Closed })) (sym shows)
    (runs-closed replacement text options lookup _ _ c.clear.new.self
    (runs-inner replacement text options lookup _ _ (record before.inner { blank = c.has_lines-self.result }) _
    (runs-builder replacement text options lookup m (state_of before) c.close.new.self (closed_at c.args.end d) runs draws (ap defined c.close.ensures.tables ∙ c.in_ok-draw_stretch.ensures.definitions))
    (ap {A = model.Siblings} {B = model.Siblings} (λ s. record s { blank = c.has_lines-self.result }) runs.inner ∙ ap {B = model.Siblings} (λ b. record m.inner { blank = b }) (c.has_lines-self.ensures ∙ ap (λ xs. is_some (map row_of xs)) c.deref.ensures.value)))
    c.clear.ensures.items)
