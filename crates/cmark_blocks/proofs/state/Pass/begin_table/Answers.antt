use Rattle.std.proofs.Common.{[], Some, false, option_map, ℕ, refl, sym, ap, ◌∙◌, subst}
use Rattle.cmark_grammar.specs.BlockDocument.{Table}
use Rattle.cmark_grammar.specs.Rows.{start_of, words_of}
use Rattle.cmark_grammar.specs.TableRows.{most_filled}
use Rattle.cmark_items.specs.Tables.{defined}
use Rattle.cmark_grammar.specs.Tables.{delimiter_row}
use Rattle.cmark_grammar.specs.TableTokens.{table_tokens}
use Rattle.cmark_items.specs.ItemNodes.{columns_of, ranged}
use Rattle.cmark_line_rules.specs.Rests.{row_of}
use Rattle.cmark_block_model.specs.BlockPass.{block_begun}
use Rattle.cmark_block_model.specs.Drawing.{Drawing, drawn, opened}
use Rattle.cmark_block_model.specs.OpenBlocks as model
use Rattle.cmark_builder.specs.Drawn.{Draws}
use Rattle.cmark_builder.proofs.DrawnSteps.{draws-open}
use Rattle.cmark_blocks.specs.declared.state.OpenLeaf.TheVariants as leaf
use Rattle.cmark_blocks.specs.Runs.{state_of, RunsIn}
use Rattle.cmark_blocks.proofs.RunSteps.{runs-builder, runs-leaf, none_after_closed}
use Rattle.cmark_blocks.proofs.state.Pass.begin_table.Goals as goal

pub returns-clause-runs : goal.returns-clause-runs
returns-clause-runs g c text options lookup m more ahead runs many =
    let replacement = g.E.EntityLookup.replacement in
    let before = c.begin_block.new.self in
    let new = c.draw_head.new.builder in
    let columns = c.args.head.columns in
    let row = row_of c.args.rest in
    let kind = Table (columns_of (delimiter_row (words_of (row_of c.args.head.delimiter)))) in
    let d = (block_begun m).drawing in
    let begun : Drawing = opened (start_of row) kind d in
    let head : Drawing = drawn (table_tokens text columns row []) begun in
    let r = c.begin_block.ensures.runs text options lookup m runs in
    let is_table = c.in_ok-body.ensures.kind ∙ ap (λ ws. Some (Table (columns_of (delimiter_row ws)))) c.words_in-row.ensures in
    let first = subst (λ start. Draws text c.open.new.self (opened start kind d)) c.words_begin.ensures.place
    (draws-open text c.table_body.new.builder c.open.new.self c.words_begin.result _ kind d c.in_ok-open.ensures.ok c.in_ok-open.ensures.tables (ap (option_map (ranged c.words_begin.result c.words_begin.result)) is_table) (c.in_ok-body.ensures.drawn text d r.drawing)) in
    let none = ap (λ b. b.items) c.begin_block.ensures.others.blank_lines ∙ none_after_closed replacement text options lookup m (state_of c.args.self.now) c.requires.closed runs in
    subst (λ (k : ℕ). RunsIn replacement text options lookup (record (block_begun m) { drawing = drawn (table_tokens text k row []) begun; leaf = model.InTable k most_filled false }) (record (state_of before) { builder = new; leaf = leaf.Table columns 262144 false }))
    (sym many)
    (runs-leaf replacement text options lookup _ _ (leaf.Table columns 262144 false) (model.InTable columns most_filled false)
    (runs-builder replacement text options lookup (block_begun m) (state_of before) new head r (c.in_ok-draw_head.ensures.drawn text begun first)
    (c.in_ok-draw_head.ensures.definitions ∙ ap defined c.in_ok-open.ensures.tables ∙ c.in_ok-body.ensures.definitions))
    (refl, none))
