use Rattle.std.proofs.Common.{◌-◌, ◌∷◌, ℕ, [], true, sym, ap, ◌∙◌, subst, arith}
use Rattle.cmark_grammar.specs.TableRows.{count_missing}
use Rattle.cmark_grammar.specs.TableTokens.{row_tokens}
use Rattle.cmark_values.specs.Shown.{shown_options}
use Rattle.cmark_line_rules.specs.Rests.{row_of}
use Rattle.cmark_block_model.specs.BlockPass.{is_row}
use Rattle.cmark_block_model.specs.Drawing.{Drawing, drawn}
use Rattle.cmark_block_model.specs.OpenBlocks as model
use Rattle.cmark_blocks.specs.declared.state.OpenLeaf.TheVariants as leaf
use Rattle.cmark_blocks.specs.Ahead.{lines_at}
use Rattle.cmark_blocks.specs.Runs.{ShowsLeaf, state_of, RunsIn}
use Rattle.cmark_blocks.proofs.FeedSteps.{in_table, feeds-row}
use Rattle.cmark_blocks.proofs.RunSteps.{runs-builder, runs-leaf}
use Rattle.cmark_blocks.proofs.TableSteps.{row-fits}
use Rattle.cmark_blocks.proofs.state.Pass.feed_table.Goals as goal

pub overflow_sub-self : goal.overflow_sub-self
overflow_sub-self g c =
    let fits = row-fits (shown_options c.args.self.now.options) c.args.columns c.args.left (row_of c.args.rest) (sym c.is_row.ensures ∙ c.if-not-is_row.false) in
    omega (arith, fits, c.in_ok-filled.ensures.filled)

pub returns-clause-runs : goal.returns-clause-runs
returns-clause-runs g c text options lookup m runs =
    let replacement = g.E.EntityLookup.replacement in
    let before = c.args.self.now in
    let new = c.draw_row.new.builder in
    let row = row_of c.args.rest in
    let columns = c.args.columns in
    let left = c.args.left in
    let filled = c.in_ok-filled.filled in
    let is = c.requires.is ∙ ap (leaf.Table columns left) c.if-not-has_delimiter.false in
    let another = ap (λ o. is_row o columns left row) (sym runs.options_is) ∙ sym c.is_row.ensures ∙ c.if-not-is_row.false in
    let fed = feeds-row text options lookup row (lines_at text row.line_end) m columns left (in_table replacement text options lookup m before runs columns left true is) another in
    let none = (subst (λ l. ShowsLeaf text l before.blank_lines.items m.leaf) is runs.leaf).1 in
    let row_drawn : Drawing = drawn (row_tokens text columns (row ∷ [])) m.drawing in
    subst (λ p. RunsIn replacement text options lookup p (record (state_of before) { builder = new; leaf = leaf.Table columns (left - filled) true })) (sym fed)
    (runs-leaf replacement text options lookup _ _ (leaf.Table columns (left - filled) true) (model.InTable columns (left - count_missing columns row) true)
    (runs-builder replacement text options lookup m (state_of before) new row_drawn runs (c.in_ok-filled.ensures.drawn text m.drawing runs.drawing) c.in_ok-filled.ensures.definitions)
    (ap (λ (n : ℕ). model.InTable columns (left - n) true) (sym c.in_ok-filled.ensures.filled), none))
