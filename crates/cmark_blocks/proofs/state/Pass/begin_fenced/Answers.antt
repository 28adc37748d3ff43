use Rattle.std.proofs.Common.{None, refl, ap, ◌∙◌, subst}
use Rattle.cmark_grammar.specs.BlockDocument.{FencedCode}
use Rattle.cmark_grammar.specs.Rows.{start_of, words_of}
use Rattle.cmark_grammar.specs.Tokens.{resolved}
use Rattle.cmark_items.specs.Tables.{defined}
use Rattle.cmark_line_rules.specs.Rests.{row_of}
use Rattle.cmark_scan_lines.specs.LeafLines.{shown_fence}
use Rattle.cmark_block_model.specs.BlockPass.{block_begun}
use Rattle.cmark_block_model.specs.Drawing.{Drawing, opened}
use Rattle.cmark_block_model.specs.OpenBlocks as model
use Rattle.cmark_builder.specs.Drawn.{Draws}
use Rattle.cmark_blocks.specs.declared.state.OpenLeaf.TheVariants as leaf
use Rattle.cmark_blocks.proofs.InfoSteps.{draws-fenced}
use Rattle.cmark_blocks.proofs.RunSteps.{runs-builder, runs-leaf, none_after_closed}
use Rattle.cmark_blocks.specs.Runs.{state_of}
use Rattle.cmark_blocks.proofs.state.Pass.begin_fenced.Goals as goal

pub returns-clause-runs : goal.returns-clause-runs
returns-clause-runs g c more text options lookup m ahead runs =
    let replacement = g.E.EntityLookup.replacement in
    let before = c.begin_block.new.self in
    let d = (block_begun m).drawing in
    let row = row_of c.args.rest in
    let fence = shown_fence c.args.indent (words_of row) c.args.fence in
    let kind = FencedCode (resolved lookup fence.info) in
    let r = c.begin_block.ensures.runs text options lookup m runs in
    let begun : Drawing = opened (start_of row) kind d in
    let info = c.in_ok-info.ensures ∙ ap (λ k. resolved k fence.info) runs.lookup_is in
    let draws = subst (λ start. Draws text c.open.new.self (opened start kind d)) c.words_begin.ensures.place
    (draws-fenced text before.builder c.open.new.self c.allocate_cow.new.self c.in_ok-info.info c.in_ok-index.index c.words_begin.result (resolved lookup fence.info) d
    c.in_ok-index.ensures.index c.in_ok-index.ensures.kept info c.in_ok-open.ensures.ok c.in_ok-open.ensures.tables r.drawing) in
    let none = ap (λ b. b.items) c.begin_block.ensures.others.blank_lines ∙ none_after_closed replacement text options lookup m (state_of c.args.self.now) c.requires.closed runs in
    runs-leaf replacement text options lookup _ _ (leaf.Fenced c.args.fence.delimiter c.args.fence.run_length c.args.indent None) (model.InFenced fence None)
    (runs-builder replacement text options lookup (block_begun m) (state_of before) c.open.new.self begun r draws
    (ap defined c.in_ok-open.ensures.tables ∙ ap defined c.in_ok-index.ensures.kept))
    (fence, (refl, refl, refl), refl, none)
