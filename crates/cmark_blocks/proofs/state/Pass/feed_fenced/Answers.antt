use Rattle.std.proofs.Common.{refl, sym, ap, ◌∙◌, subst}
use Rattle.cmark_line_rules.specs.Rests.{row_of}
use Rattle.cmark_block_model.specs.CodeLines.{code_line, rest_of, texts_of}
use Rattle.cmark_block_model.specs.Drawing.{Drawing, drawn, closed_at}
use Rattle.cmark_block_model.specs.OpenBlocks as model
use Rattle.cmark_builder.specs.Drawn.{Draws}
use Rattle.cmark_builder.proofs.DrawnSteps.{draws-close}
use Rattle.cmark_leaf_nodes.specs.Stretches.{shown_waits}
use Rattle.cmark_blocks.specs.Ahead.{lines_at}
use Rattle.cmark_blocks.specs.Runs.{ShowsLeaf, state_of, RunsIn}
use Rattle.cmark_blocks.specs.declared.state.OpenLeaf.TheVariants as leaf
use Rattle.cmark_blocks.proofs.CodeSteps.{fence-closes, fence-goes-on}
use Rattle.cmark_blocks.proofs.RunSteps.{runs-builder, runs-leaf}
use Rattle.cmark_blocks.proofs.state.Pass.feed_fenced.Goals as goal
use Rattle.cmark_items.specs.Tables.{defined}

pub returns-in-Closes-clause-runs : goal.returns-in-Closes-clause-runs
returns-in-Closes-clause-runs g c text options lookup m runs =
    let replacement = g.E.EntityLookup.replacement in
    let before = c.args.self.now in
    let row = row_of c.args.rest in
    let waits = shown_waits text c.args.waits in
    let shows = subst (λ l. ShowsLeaf text l before.blank_lines.items m.leaf) c.requires.is runs.leaf in
    let d : Drawing = drawn (texts_of (rest_of waits)) m.drawing in
    let draws = subst (λ line_end. Draws text c.close.new.self (closed_at line_end d)) c.line_end.ensures.place
    (draws-close text c.draw_stretch.new.builder c.close.new.self c.line_end.result d c.close.ensures.closed c.close.ensures.none c.close.ensures.tables (c.in_ok-draw_stretch.ensures.drawn text m.drawing runs.drawing)) in
    let fed = fence-closes text options lookup shows.0 waits row (lines_at text row.line_end) m c.continuation.result c.args.delimiter c.args.run_length c.args.indent shows.1 shows.2 c.continuation.ensures c.in-Closes.is in
    subst (λ p. RunsIn replacement text options lookup p (record (state_of before) { builder = c.close.new.self; leaf = leaf.Closed })) (sym fed)
    (runs-leaf replacement text options lookup _ _ leaf.Closed model.Closed
    (runs-builder replacement text options lookup m (state_of before) c.close.new.self (closed_at row.line_end d) runs draws (ap defined c.close.ensures.tables ∙ c.in_ok-draw_stretch.ensures.definitions))
    (refl, shows.3))

pub returns-clause-runs : goal.returns-clause-runs
returns-clause-runs g c text options lookup m runs =
    let replacement = g.E.EntityLookup.replacement in
    let before = c.args.self.now in
    let new = c.draw_code_line.new.builder in
    let row = row_of c.args.rest in
    let waits = shown_waits text c.args.waits in
    let shows = subst (λ l. ShowsLeaf text l before.blank_lines.items m.leaf) c.requires.is runs.leaf in
    let run = code_line text c.args.indent row waits in
    let fed = fence-goes-on text options lookup shows.0 waits row (lines_at text row.line_end) m c.continuation.result c.args.delimiter c.args.run_length c.args.indent shows.1 shows.2 c.continuation.ensures c.in_default.not-Closes in
    subst (λ p. RunsIn replacement text options lookup p (record (state_of before) { builder = new; leaf = leaf.Fenced c.args.delimiter c.args.run_length c.args.indent c.in_ok-left.left })) (sym fed)
    (runs-leaf replacement text options lookup _ _ (leaf.Fenced c.args.delimiter c.args.run_length c.args.indent c.in_ok-left.left) (model.InFenced shows.0 run.waits)
    (runs-builder replacement text options lookup m (state_of before) new (drawn (texts_of run.done) m.drawing) runs (c.in_ok-left.ensures.drawn text m.drawing runs.drawing) c.in_ok-left.ensures.definitions)
    (shows.0, shows.1, ap (model.InFenced shows.0) (sym (c.in_ok-left.ensures.waits text)), shows.3))
