use Rattle.std.proofs.Common.{refl, sym, ap, ◌∙◌, subst}
use Rattle.cmark_line_rules.specs.Rests.{row_of}
use Rattle.cmark_values.specs.Shown.{shown_metadata_block_kind}
use Rattle.cmark_block_model.specs.CodeLines.{code_line, rest_of, texts_of}
use Rattle.cmark_block_model.specs.Drawing.{Drawing, drawn, closed_at}
use Rattle.cmark_block_model.specs.OpenBlocks as model
use Rattle.cmark_builder.specs.Drawn.{Draws}
use Rattle.cmark_builder.proofs.DrawnSteps.{draws-close}
use Rattle.cmark_leaf_nodes.specs.Stretches.{shown_waits}
use Rattle.cmark_blocks.specs.Ahead.{lines_at}
use Rattle.cmark_blocks.specs.Runs.{ShowsLeaf, state_of, RunsIn}
use Rattle.cmark_blocks.specs.declared.state.OpenLeaf.TheVariants as leaf
use Rattle.cmark_blocks.proofs.MetadataSteps.{metadata-closes, metadata-goes-on}
use Rattle.cmark_blocks.proofs.RunSteps.{runs-builder, runs-leaf}
use Rattle.cmark_blocks.proofs.state.Pass.feed_metadata.Goals as goal
use Rattle.cmark_items.specs.Tables.{defined}

pub returns-then-ends_metadata-clause-runs : goal.returns-then-ends_metadata-clause-runs
returns-then-ends_metadata-clause-runs g c text options lookup m runs =
    let replacement = g.E.EntityLookup.replacement in
    let before = c.args.self.now in
    let row = row_of c.args.rest in
    let kind = shown_metadata_block_kind c.args.kind in
    let waits = shown_waits text c.args.waits in
    let shows = subst (λ l. ShowsLeaf text l before.blank_lines.items m.leaf) c.requires.is runs.leaf in
    let d : Drawing = drawn (texts_of (rest_of waits)) m.drawing in
    let draws = subst (λ line_end. Draws text c.close.new.self (closed_at line_end d)) c.line_end.ensures.place
    (draws-close text c.draw_stretch.new.builder c.close.new.self c.line_end.result d c.close.ensures.closed c.close.ensures.none c.close.ensures.tables (c.in_ok-draw_stretch.ensures.drawn text m.drawing runs.drawing)) in
    let fed = metadata-closes text options lookup kind waits row (lines_at text row.line_end) m shows.0 (sym c.ends_metadata.ensures ∙ c.if-ends_metadata.true) in
    subst (λ p. RunsIn replacement text options lookup p (record (state_of before) { builder = c.close.new.self; leaf = leaf.Closed })) (sym fed)
    (runs-leaf replacement text options lookup _ _ leaf.Closed model.Closed
    (runs-builder replacement text options lookup m (state_of before) c.close.new.self (closed_at row.line_end d) runs draws (ap defined c.close.ensures.tables ∙ c.in_ok-draw_stretch.ensures.definitions))
    (refl, shows.1))

pub returns-clause-runs : goal.returns-clause-runs
returns-clause-runs g c text options lookup m runs =
    let replacement = g.E.EntityLookup.replacement in
    let before = c.args.self.now in
    let new = c.draw_code_line.new.builder in
    let row = row_of c.args.rest in
    let kind = shown_metadata_block_kind c.args.kind in
    let waits = shown_waits text c.args.waits in
    let shows = subst (λ l. ShowsLeaf text l before.blank_lines.items m.leaf) c.requires.is runs.leaf in
    let run = code_line text 0 row waits in
    let fed = metadata-goes-on text options lookup kind waits row (lines_at text row.line_end) m shows.0 (sym c.ends_metadata.ensures ∙ c.if-ends_metadata.false) in
    subst (λ p. RunsIn replacement text options lookup p (record (state_of before) { builder = new; leaf = leaf.Metadata c.args.kind c.in_ok-left.left })) (sym fed)
    (runs-leaf replacement text options lookup _ _ (leaf.Metadata c.args.kind c.in_ok-left.left) (model.InMetadata kind run.waits)
    (runs-builder replacement text options lookup m (state_of before) new (drawn (texts_of run.done) m.drawing) runs (c.in_ok-left.ensures.drawn text m.drawing runs.drawing) c.in_ok-left.ensures.definitions)
    (ap (model.InMetadata kind) (sym (c.in_ok-left.ensures.waits text)), shows.1))
